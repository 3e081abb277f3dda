-- Callers read Undefined and Held, and Times and OneAKey where a law is cited. LeftJoin is what the law of left joins alone
-- speaks of; Shards is read by laws of shards alone. Contracts of other crates read all the others.
pub mod Times
pub mod Undefined
pub mod OneAKey
pub mod Held
pub mod Widths
pub mod LeftJoin
pub mod Readings
pub mod Places
pub mod Standing
pub mod Keeping
pub mod Selected
pub mod Shards
pub mod RowCells
pub mod CellTests
pub mod Answers
pub mod Sides
pub mod LifeKeeping
pub mod Extending
pub mod Uniting
pub mod Parts
