pub mod Typing
pub mod Stepping
pub mod Operands
pub mod Results
pub mod Mapping
pub mod Placing
pub mod Marks
pub mod Comparing
pub mod Filling
pub mod Signed
pub mod Parts
mod Loads
pub mod Dividing
