-- Callers read Kept, what was done where `keep` failed, and of Memory what a wire in memory is seen as; only private contracts cite
-- entry_of and with_keep. Of a file that is replaced whole they read Disk and Calls, a disk and what each call does to it, Opened and
-- Replaced, what is then known of FILE, Folder, where its name stands, and of MediumMemory what a medium in memory is seen as.
pub mod Kept
pub mod Memory
pub mod Calls
pub mod Disk
pub mod Folder
pub mod MediumMemory
pub mod Opened
pub mod Replaced
