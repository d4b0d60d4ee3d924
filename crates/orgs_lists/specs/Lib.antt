pub mod Filters
pub mod Hits
