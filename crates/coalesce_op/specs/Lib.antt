-- Callers read Coalesces; the rest is cited by private contracts alone.
pub mod Coalesces
pub mod Holding
pub mod States
pub mod Operating
