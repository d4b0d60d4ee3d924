mod Accounted
mod Sets
mod Sizes
mod Starting
mod Strange
mod Patching
pub mod Elements
pub mod Sorted
mod Steps
mod Takes
pub mod Writes
mod Replaying
mod Going
pub mod Recovers
mod OpenGate
pub mod Commits
mod Changes
mod Closing
mod Noted
mod Contexts
mod Allowed
mod Always
mod Made
mod Recorded
pub mod Recovering
mod Reopening
pub mod Openings
mod Committing
mod Confirming
mod Kept
pub mod Crashed
pub mod Middle
mod Tried
mod Again
mod Lefts
