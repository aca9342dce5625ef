pub mod Heads
pub mod Splits
pub mod DoublingLaws
