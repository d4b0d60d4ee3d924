pub mod Tags
pub mod Listed
pub mod Read
pub mod Words
