pub mod Entries
pub mod Effects
