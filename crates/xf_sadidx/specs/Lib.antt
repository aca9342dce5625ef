pub mod Layout
pub mod Keys
pub mod Queries
pub mod Standing
pub mod Founds
pub mod Bests
pub mod Writes
pub mod ListLaws
