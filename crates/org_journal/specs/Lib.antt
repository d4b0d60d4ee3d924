pub mod Gate
pub mod Record
pub mod Reading
pub mod Recovered
pub mod Left
pub mod Decoding
pub mod Finding
