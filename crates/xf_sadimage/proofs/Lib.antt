pub mod Keeping
pub mod Empties
pub mod Linking
