-- Callers read AntiJoined; the rest is cited by private contracts alone.
pub mod AntiJoined
pub mod Free
pub mod Times
pub mod Holding
pub mod Rows
pub mod States
pub mod Operating
