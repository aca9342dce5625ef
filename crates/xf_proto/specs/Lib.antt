pub mod SeatState
pub mod ProtocolState
pub mod Statuses
pub mod Legality
pub mod Effects
pub mod Table
pub mod Runs
