pub mod Text
pub mod Beginnings
pub mod Headings
