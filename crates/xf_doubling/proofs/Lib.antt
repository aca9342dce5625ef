pub mod Halves
pub mod Numbers
pub mod Heads
pub mod Turns
pub mod Keyed
pub mod Splitting
pub mod Grown
pub mod Outside
