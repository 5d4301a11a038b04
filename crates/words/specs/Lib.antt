pub mod Words
pub mod Runs
pub mod Sums
pub mod Inner
