pub mod Slots
pub mod Answered
pub mod Resolved
pub mod Listed
pub mod Followed
pub mod Acquired
mod Placed
