pub mod Agreement
pub mod Pointers
pub mod Kept
pub mod Rows
pub mod Distinct
pub mod Taken
pub mod Faults
pub mod Spelled
pub mod Same
pub mod Once
pub mod Clash
pub mod Printed
mod Examples
