pub mod Move
pub mod Inner
