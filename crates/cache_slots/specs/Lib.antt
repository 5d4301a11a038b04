pub mod Slots
pub mod Plain
