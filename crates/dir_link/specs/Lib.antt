pub mod Link
pub mod Inner
