-- Callers read Followed; the rest is cited by private contracts alone.
pub mod Followed
pub mod Waits
pub mod Intervals
pub mod Reached
pub mod Keys
pub mod States
pub mod Operating
