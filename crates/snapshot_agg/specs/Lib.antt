-- Callers read Words, Operating and Saving. What the operator keeps of its groups is cited by its own contracts alone.
pub mod Words
pub mod AliveRows
pub mod KeptRows
pub mod States
pub mod Totaled
pub mod KeyRow
pub mod Touching
pub mod Changing
pub mod Waiting
pub mod Keeping
pub mod Answering
pub mod Counting
pub mod Living
pub mod Operating
pub mod OneProof
pub mod Saving
