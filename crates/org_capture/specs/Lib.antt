pub mod Answers
pub mod Template
pub mod Entry
pub mod Dates
pub mod Capture
pub mod Made
