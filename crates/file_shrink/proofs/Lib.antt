pub mod Freeing
pub mod Freers
