pub mod Ranges
pub mod Lengths
pub mod Walk
pub mod Picks
pub mod Growth
pub mod Passing
