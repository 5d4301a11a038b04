pub mod InnerReading
pub mod InnerNames
