pub mod Images
pub mod Moments
pub mod Names
pub mod Back
pub mod Ranges
mod NameRows
pub mod Accounting
pub mod Parts
pub mod Folders
