pub mod Ready
pub mod Heads
pub mod Refused
pub mod Dirs
pub mod Tests
