pub mod Check
pub mod FileCallsC
pub mod DirCallsC
