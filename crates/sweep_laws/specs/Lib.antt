-- Callers read all of these. JoinReached, JoinKeeps, GroupReached and GroupKeeps are what an operator carries from instant to instant
-- and from step to step.
pub mod Sweeps
pub mod Changes
pub mod Moves
pub mod Pairs
pub mod Meeting
pub mod Joining
pub mod Running
pub mod Grouping
pub mod AnyGroup
pub mod Sessioning
pub mod Clipping
pub mod Antijoining
pub mod Unending
pub mod Queues
pub mod Waits
pub mod Saving
