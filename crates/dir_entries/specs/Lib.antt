pub mod Entries
pub mod Names
pub mod Inner
