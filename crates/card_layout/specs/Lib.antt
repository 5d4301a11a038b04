pub mod Sizes
pub mod Super
pub mod Inode
pub mod Slots
pub mod Entry
pub mod Inner
