pub mod Upward
pub mod Counting
pub mod Places
pub mod Walks
pub mod Kept
