-- Callers read these: what lines are, what is admitted of them, and what is written. Keeping has the words in which laws say
-- what stays.
pub mod Entries
pub mod Admission
pub mod Answers
pub mod Bounds
pub mod Progress
pub mod Text
pub mod Keeping
