pub mod Bounds
pub mod Summary
pub mod Text
