pub mod Called
pub mod Ways
pub mod Naming
