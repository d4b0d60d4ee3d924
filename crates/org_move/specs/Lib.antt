pub mod Answers
pub mod Archive
pub mod Counts
pub mod Edits
pub mod Given
pub mod Inherited
pub mod Location
pub mod Refile
