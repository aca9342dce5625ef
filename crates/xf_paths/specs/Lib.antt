pub mod Shown
pub mod Stage
