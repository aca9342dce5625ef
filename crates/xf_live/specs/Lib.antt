pub mod Values
pub mod Passes
pub mod Calls
pub mod Ends
