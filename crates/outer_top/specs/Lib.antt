-- Callers read all of these.
pub mod Ranks
pub mod Keyed
pub mod Shown
pub mod TopKeys
pub mod TopLikes
pub mod TopEvents
pub mod Sweeping
pub mod States
pub mod Sides
pub mod Operating
