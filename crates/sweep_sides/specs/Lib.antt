-- Callers read all of these.
pub mod Waiting
pub mod Starts
pub mod Sides
pub mod Ends
pub mod Answers
pub mod Sweeping
pub mod Sweepers
pub mod Operating
