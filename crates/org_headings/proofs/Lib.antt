pub mod Lines
pub mod HeadsFrom
pub mod Levels
pub mod KeptLines
pub mod FirstLine
pub mod Runs
pub mod Edits
