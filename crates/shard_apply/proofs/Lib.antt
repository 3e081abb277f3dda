mod Stepped
pub mod WholeSteps
pub mod Faults
pub mod Apart
pub mod WholeLaws
pub mod Saves
pub mod Loads
