-- Callers read all of these. Balance and Ahead hold the two forms in which what is told is kept from step to step.
pub mod Order
pub mod History
pub mod Balance
pub mod Side
pub mod Made
pub mod Opens
pub mod Ahead
