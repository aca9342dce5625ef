pub mod Held
pub mod Aged
