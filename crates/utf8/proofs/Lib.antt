pub mod Encoding
pub mod Tests
pub mod Table
pub mod Text
pub mod Groups
