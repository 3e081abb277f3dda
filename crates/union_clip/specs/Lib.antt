-- Callers read Clipped, Saving and UnionOperating; the rest is cited by private contracts alone.
pub mod Clipped
pub mod Leaving
pub mod Holding
pub mod Keys
pub mod States
pub mod Operating
pub mod Saving
pub mod UnionOperating
