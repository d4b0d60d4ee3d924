pub mod Heads
pub mod Values
pub mod Names
pub mod Looking
pub mod Standing
