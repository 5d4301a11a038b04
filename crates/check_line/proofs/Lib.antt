pub mod Decimal
pub mod Puts
pub mod Line
