pub mod Growers
pub mod Taken
pub mod Runs
