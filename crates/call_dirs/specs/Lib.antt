pub mod DirCalls
