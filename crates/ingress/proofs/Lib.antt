mod Marks
mod Ranked
mod Merged
mod Starts
mod Queued
mod Holding
mod Keep
mod Allowing
mod Released
mod Fitting
pub mod Reading
mod Leaving
pub mod LinesFit
mod Lines
mod FirstShape
mod Counting
mod Timed
mod HeldTimes
mod SavedAll
mod LoadedAll
mod KeptExamples
pub mod SliceEnds
pub mod Below
pub mod EndsFound
mod Listed
mod SliceExamples
