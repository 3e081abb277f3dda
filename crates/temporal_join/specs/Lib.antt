-- Callers read Joined, States and Operating; Pairing, Kept and Lives are cited by private contracts alone.
pub mod Joined
pub mod Pairing
pub mod Kept
pub mod Lives
pub mod Few
pub mod States
pub mod Settled
pub mod Operating
