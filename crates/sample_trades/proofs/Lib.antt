pub mod Free
pub mod Coming
pub mod Bytes
mod Examples
