pub mod Numbers
pub mod Lists
pub mod Parts
pub mod Runs
pub mod Sums
pub mod Answers
