pub mod AgeLemmas
pub mod DeadLemmas
