pub mod Marking
pub mod Uses
pub mod Readable
pub mod Heads
