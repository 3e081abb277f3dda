pub mod KeyRules
pub mod Sums
pub mod Taken
pub mod Passing
pub mod Steps
pub mod Answering
pub mod Resuming
