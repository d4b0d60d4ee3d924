pub mod Calendar
pub mod Parts
pub mod Stamp
pub mod Front
pub mod Reading
pub mod Repeat
