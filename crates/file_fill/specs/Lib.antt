pub mod Source
pub mod Inner
