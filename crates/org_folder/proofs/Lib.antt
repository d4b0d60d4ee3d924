mod Names
mod Recorded
mod Absent
mod Unwritten
mod Places
mod Entries
pub mod Looked
mod Seen
mod Entered
mod Accounting
mod Since
mod Walked
