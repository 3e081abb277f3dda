-- Callers read Pending; Stored is cited by the model alone.
pub mod Pending
pub mod Stored
