-- Callers read Output, Texts, Faults, Fed, Block, Held, Frozen and Entries. Of Went they read what `Fed` says of the parts of an engine;
-- Working, Underway, Freezing, Kept, Named, and the other words of Went and Faults, are cited by private contracts alone.
pub mod Output
pub mod Texts
pub mod Faults
pub mod Went
pub mod Fed
pub mod Held
pub mod Working
pub mod Underway
pub mod Frozen
pub mod Entries
pub mod Freezing
pub mod Block
pub mod Kept
pub mod Named
