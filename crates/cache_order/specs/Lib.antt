pub mod Slots
pub mod Order
pub mod Status
