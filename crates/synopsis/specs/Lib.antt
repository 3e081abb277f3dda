-- Callers read KeyValues, KeyedRows, key_of and is_of_key of Held, and, of open starts in queues, Queued, of Kept `since_at` and
-- `EachIsOpen`, and of Holding `AreApart`; the rest is cited by private contracts and models alone.
pub mod Held
pub mod Buckets
pub mod Few
pub mod Marks
pub mod Words
pub mod Hashing
pub mod Queued
pub mod Kept
pub mod Counted
pub mod Marked
pub mod Holding
