pub mod FillBytes
pub mod FileBytes
pub mod Sound
pub mod Fillers
