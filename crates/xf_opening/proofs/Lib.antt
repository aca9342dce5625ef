pub mod Images
pub mod Young
pub mod Freed
