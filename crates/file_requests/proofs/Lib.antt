pub mod Changes
pub mod Answers
pub mod Calls
