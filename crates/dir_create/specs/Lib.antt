pub mod Create
pub mod Inner
