pub mod Found
pub mod Following
pub mod Asked
pub mod Paths
pub mod Larval
