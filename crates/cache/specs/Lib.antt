pub mod Effects
pub mod Calls
