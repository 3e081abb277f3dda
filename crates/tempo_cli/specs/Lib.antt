-- Callers read Answers, Told, Table, Resumed, Freezing, Restoring, Summing, Jobs and Status, and of Feeding what has gone out at a
-- line; and of runs that keep their state Keeping, what one has done, KeptStatus, how it ends, and Unbroken, runs that crashes ended.
-- Only private contracts cite Working, Holding, Halting, Sampled, Restored and Standing.
pub mod Answers
pub mod Told
pub mod Table
pub mod Resumed
pub mod Freezing
pub mod Restoring
pub mod Summing
pub mod Status
pub mod Jobs
pub mod Feeding
pub mod Working
pub mod Holding
pub mod Sampled
pub mod Restored
pub mod Halting
pub mod Keeping
pub mod Standing
pub mod KeptStatus
pub mod Unbroken
