pub mod Counts
pub mod Retiring
pub mod Rows
pub mod Fulls
