-- Callers read all but Cut and Found, which the model and private contracts cite.
pub mod Journal
pub mod Faults
pub mod Memory
pub mod Lines
pub mod Cutter
pub mod Cut
pub mod Found
pub mod Next
pub mod Cuts
pub mod Reading
pub mod Block
