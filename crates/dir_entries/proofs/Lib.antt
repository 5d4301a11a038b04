pub mod Comparing
pub mod Lookup
pub mod Given
