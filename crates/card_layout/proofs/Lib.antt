pub mod Words
pub mod Names
pub mod InodeLaws
pub mod SuperLaws
pub mod EntryLaws
