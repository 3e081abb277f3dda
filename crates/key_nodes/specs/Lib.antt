-- What callers read are all of these but for Shards, which the laws of shards alone cite, and from Runs goes_on, IsApart,
-- AreMaximal and AreFalling.
pub mod Runs
pub mod Groups
pub mod Joins
pub mod Antis
pub mod Sessions
pub mod Clips
pub mod Coalesced
pub mod Tops
pub mod Follows
pub mod Shards
