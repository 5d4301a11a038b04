pub mod CreateLaws
pub mod KindLaws
