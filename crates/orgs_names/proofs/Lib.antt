pub mod Filed
pub mod Upward
