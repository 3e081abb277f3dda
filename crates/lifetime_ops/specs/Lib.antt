-- Callers read Nodes, Operating, Saving, ExtendOperating, ExtendSaving and Waiting; Times is cited by private contracts alone.
pub mod Nodes
pub mod Operating
pub mod Saving
pub mod ExtendOperating
pub mod ExtendSaving
pub mod Waiting
pub mod Times
