-- Callers read Planned and Explained, and the laws Draft, Steps and Faults; and of cuts Cuts, Parts, Choices and Told. The others are
-- cited by private contracts.
pub mod Draft
pub mod Answer
pub mod Growing
pub mod Checked
pub mod Steps
pub mod Faults
pub mod Planned
pub mod Explained
pub mod Names
pub mod Types
pub mod Schemas
pub mod Cuts
pub mod Parts
pub mod Choices
pub mod Told
