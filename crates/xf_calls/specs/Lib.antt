pub mod Whole
pub mod Stepping
pub mod OnlyPolicies
