-- Callers read all of these.
pub mod Stepping
pub mod Whole
pub mod Saving
pub mod Shards
