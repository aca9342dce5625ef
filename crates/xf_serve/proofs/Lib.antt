pub mod Runs
pub mod Calm
pub mod Answered
pub mod Policies
pub mod Written
pub mod Changed
pub mod Adding
