-- Callers read Fits, Times, Saving, Slices, Admits and what it stands on (Streams, Held, Keeping, OpenKeys); Ranks, Entering,
-- Changes and Loaded are cited by contracts of this crate alone.
pub mod Streams
pub mod Held
pub mod Keeping
pub mod OpenKeys
pub mod Ranks
pub mod Fits
pub mod Entering
pub mod Changes
pub mod Admits
pub mod Counts
pub mod Times
pub mod Saving
pub mod Loaded
pub mod Slices
