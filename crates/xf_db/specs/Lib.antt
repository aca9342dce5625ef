pub mod Passes
pub mod Closing
pub mod Calls
