pub mod Test
pub mod Places
pub mod Counts
pub mod Found
pub mod Both
pub mod Filtered
pub mod Writing
