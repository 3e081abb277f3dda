-- Callers read all of these.
pub mod Word
pub mod Contents
pub mod PoolView
