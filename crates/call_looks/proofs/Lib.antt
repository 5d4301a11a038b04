pub mod EntryTold
