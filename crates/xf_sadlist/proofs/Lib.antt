pub mod Tallies
pub mod Comings
pub mod Leavings
pub mod Rewritings
