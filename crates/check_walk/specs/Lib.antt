pub mod Inner
pub mod Opening
