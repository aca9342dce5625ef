pub mod Standing
pub mod Leaving
pub mod Passing
pub mod Asking
