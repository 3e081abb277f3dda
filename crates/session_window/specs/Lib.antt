-- The private contracts of the operator cite all of these.
pub mod Lasts
pub mod Kept
pub mod Windows
pub mod Holding
pub mod Sessions
pub mod Sides
pub mod States
pub mod Operating
