pub mod Ready
pub mod Windows
pub mod Left
pub mod Choices
pub mod Sweeps
pub mod Conditions
