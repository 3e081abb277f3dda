-- Callers read Faults, Lists, Stages, Shards, Flows, SameRun, Slices, Below and Saving; private contracts alone cite Operating,
-- Making, Held, Readers and Closings.
pub mod Faults
pub mod Lists
pub mod Operating
pub mod Stages
pub mod Shards
pub mod Making
pub mod Flows
pub mod SameRun
pub mod Slices
pub mod Below
pub mod Held
pub mod Readers
pub mod Closings
pub mod Saving
