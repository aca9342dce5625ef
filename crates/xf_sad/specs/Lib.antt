pub mod Replies
pub mod Slots
pub mod Changes
pub mod Lookups
pub mod Places
