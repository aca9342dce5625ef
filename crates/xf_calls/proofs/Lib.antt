pub mod Stepped
pub mod Wholes
pub mod Rules
pub mod Changed
pub mod Reading
pub mod Begun
