pub mod Reading
pub mod Merge
pub mod Identity
