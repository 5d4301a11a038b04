pub mod Laws
pub mod PlainLaws
pub mod RecordLaws
pub mod Records
