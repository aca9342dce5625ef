pub mod Places
pub mod Inserting
pub mod Growing
pub mod KeptStates
pub mod Packets
pub mod Adding
pub mod Ages
pub mod Asking
