pub mod ReadBytes
pub mod Readers
