-- Callers read Listing, Lists, Taking, Reading, Shards, Standing, Steps and Entries; Sides, Growing, Few and Together are cited by private
-- contracts alone.
pub mod Sides
pub mod Listing
pub mod Lists
pub mod Taking
pub mod Growing
pub mod Reading
pub mod Shards
pub mod Standing
pub mod Steps
pub mod Entries
pub mod Few
pub mod Together
