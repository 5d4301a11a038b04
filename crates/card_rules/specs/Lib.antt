pub mod View
pub mod Whole
pub mod Places
pub mod Same
