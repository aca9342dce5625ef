pub mod Growth
pub mod Kept
pub mod Replacing
pub mod Wanted
pub mod Parts
