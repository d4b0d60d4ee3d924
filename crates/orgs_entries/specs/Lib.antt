pub mod Lines
pub mod Twins
pub mod Families
pub mod Paths
