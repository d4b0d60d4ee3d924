pub mod Gates
pub mod Texts
pub mod Sized
pub mod Read
pub mod Loops
pub mod Names
pub mod Numbers
pub mod Patched
pub mod Spelled
pub mod Journal
pub mod Fitting
pub mod Accounted
pub mod ReadBack
pub mod Ends
pub mod Cutting
mod Vectors
