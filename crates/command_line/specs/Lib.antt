-- Callers read Words; Options is cited by private contracts alone.
pub mod Options
pub mod Words
