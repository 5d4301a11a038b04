pub mod Unlink
pub mod Inner
