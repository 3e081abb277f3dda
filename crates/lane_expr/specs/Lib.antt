-- Callers read Steps, Kernels and Hash. Running, Registers, Lanes and Reciprocals are cited by private contracts.
pub mod Steps
pub mod Running
pub mod Kernels
pub mod Hash
pub mod Registers
pub mod Lanes
pub mod Reciprocals
