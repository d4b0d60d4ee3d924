pub mod Cuts
pub mod Joins
mod Rows
pub mod Feeding
mod Fields
mod Pieces
mod Nodes
mod Moments
pub mod Inputs
pub mod Utf8
pub mod Counting
pub mod Breaking
pub mod Escapes
pub mod Steps
pub mod Paths
pub mod Spelled
pub mod Spellable
pub mod Honest
pub mod Crashes
pub mod History
pub mod Foreign
mod Places
mod Settled
mod Opened
mod Times
mod Reported
mod Lefts
mod Listed
mod Again
mod Files
mod Syncs
mod Synced
mod Promised
