pub mod Slots
pub mod Replaced
pub mod Tried
pub mod Paths
pub mod FindLaws
