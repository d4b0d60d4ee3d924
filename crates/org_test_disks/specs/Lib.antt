pub mod Fuse
pub mod Memory
pub mod Record
pub mod RecordLaws
