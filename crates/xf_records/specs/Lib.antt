pub mod Blocks
pub mod Codes
pub mod Parts
pub mod Policies
pub mod States
