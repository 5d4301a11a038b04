pub mod Agree
pub mod AgreeDirs
pub mod Bytes
