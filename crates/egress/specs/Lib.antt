-- Callers read Instants, Print, Reached, Waiting, Output and Saving. The words of Kept, Gathering, Saved, Loading and Showing, and `ArePut` and
-- `ArePopped` of Waiting, are used inside the crate.
pub mod Instants
pub mod Print
pub mod Reached
pub mod Kept
pub mod Waiting
pub mod Gathering
pub mod Showing
pub mod Output
pub mod Saving
pub mod Saved
pub mod Loading
