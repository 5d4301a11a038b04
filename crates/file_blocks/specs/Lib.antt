pub mod Inner
pub mod Ranges
pub mod Bytes
pub mod Taking
