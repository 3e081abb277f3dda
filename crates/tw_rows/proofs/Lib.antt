pub mod Bags
pub mod Fronts
pub mod Lives
pub mod Knowing
pub mod TextTables
pub mod CellReads
pub mod CellEquality
mod KindExamples
