pub mod LookCalls
