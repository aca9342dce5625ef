pub mod Kept
pub mod Passed
pub mod Ruled
pub mod Begun
pub mod Asked
