pub mod Feeding
pub mod Showing
pub mod Giving
pub mod Telling
pub mod Punctuating
pub mod Lines
pub mod Keeping
pub mod Blocks
mod Examples
pub mod Holding
pub mod Sources
pub mod Thawing
pub mod Fitting
pub mod Counting
mod FrozenExamples
mod BlockExamples
pub mod Matching
pub mod Rows
pub mod Sharing
pub mod Falling
pub mod InOrder
pub mod PartCounting
pub mod Naming
