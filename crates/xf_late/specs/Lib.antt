pub mod Rests
pub mod LateLaws
