pub mod Counts
pub mod TreeStep
pub mod TreeAdd
pub mod TreeDrop
pub mod TreeMove
