pub mod Statuses
pub mod Folder
pub mod Words
pub mod Lists
pub mod Causes
pub mod Faults
pub mod Runs
