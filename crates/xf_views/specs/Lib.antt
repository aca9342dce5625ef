pub mod Log
pub mod Hands
pub mod Views
pub mod TurnPart
pub mod TurnLaws
pub mod TurnSays
pub mod Starts
