pub mod States
pub mod Writes
pub mod StateLaws
