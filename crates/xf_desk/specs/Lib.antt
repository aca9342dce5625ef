pub mod Nothing
pub mod Values
pub mod Lending
pub mod Pools
pub mod Marks
pub mod MarkLaws
pub mod Turns
pub mod TurnLaws
