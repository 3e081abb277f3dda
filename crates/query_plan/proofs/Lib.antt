pub mod Answering
pub mod Drafts
pub mod Growing
pub mod Fits
pub mod BothSides
pub mod Averaging
pub mod LeftNodes
pub mod Sound
pub mod FaultOrder
pub mod StepLemmas
pub mod ExplainExamples
mod Examples
pub mod SoFar
pub mod Trees
pub mod Places
pub mod Clashes
pub mod Columns
pub mod ColumnFits
mod ColumnExamples
pub mod Typing
pub mod Fitting
pub mod Past
pub mod CutColumns
pub mod CutSteps
pub mod Cutting
pub mod Together
pub mod Found
pub mod Numbers
mod CutExamples
