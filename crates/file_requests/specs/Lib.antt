pub mod Resizing
pub mod Requests
pub mod Inner
