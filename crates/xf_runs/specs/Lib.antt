pub mod Known
pub mod Holds
pub mod Honest
pub mod Runs
pub mod Reuse
