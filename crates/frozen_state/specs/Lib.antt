-- Callers read all of these. Forms and Formed say what a plan keeps, and Frozen what is written of it.
pub mod Frozen
pub mod Forms
pub mod Formed
