pub mod Bits
pub mod Zeros
pub mod Map
pub mod Groups
pub mod First
pub mod Laws
