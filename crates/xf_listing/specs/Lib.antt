pub mod Header
pub mod Walks
pub mod Calls
