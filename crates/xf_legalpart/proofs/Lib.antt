pub mod Increasing
pub mod Legal
pub mod Replies
pub mod Honesty
pub mod Pasts
pub mod Overtaken
pub mod AgainRows
pub mod GivenUp
