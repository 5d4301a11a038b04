pub mod Search
pub mod Enter
pub mod Keep
pub mod Step
pub mod Start
pub mod Faithful
