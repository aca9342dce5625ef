pub mod Bests
pub mod Walks
