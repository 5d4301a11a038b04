pub mod Requests
pub mod Returned
pub mod Effects
pub mod Inner
