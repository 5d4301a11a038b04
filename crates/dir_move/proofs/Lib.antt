pub mod Climbing
pub mod MoveLaws
