pub mod Refusals
pub mod Faults
