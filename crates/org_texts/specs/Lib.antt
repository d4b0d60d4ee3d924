pub mod Held
pub mod Texts
pub mod Plan
pub mod Inside
pub mod Files
pub mod Edits
