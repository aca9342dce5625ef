pub mod Owns
pub mod Fulls
pub mod Touches
pub mod Since
pub mod Still
pub mod Late
