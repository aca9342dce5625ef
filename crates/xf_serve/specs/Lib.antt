pub mod Served
pub mod Reading
pub mod Settling
pub mod Changing
