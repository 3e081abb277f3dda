-- Callers read `told` and Standing; the relations between what is kept and a bag are cited by the aggregates themselves alone.
pub mod Amounts
pub mod Standing
