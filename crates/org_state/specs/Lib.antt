pub mod Keyword
pub mod Todo
pub mod Edits
pub mod Answers
pub mod OwnLines
pub mod Change
pub mod Clock
pub mod Open
