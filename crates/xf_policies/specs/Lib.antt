pub mod Answers
pub mod Sweeps
pub mod Standing
pub mod Visits
