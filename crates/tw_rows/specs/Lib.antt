-- Contracts of other crates read all of these. RowOrder and SameCells hold the laws of orders and of equality, too
pub mod Bag
pub mod Instant
pub mod Event
pub mod Rows
pub mod RowOrder
pub mod Kinds
pub mod Texts
pub mod Cells
pub mod SameCells
pub mod Words
