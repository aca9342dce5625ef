mod Scanning
mod Values
mod Homes
mod Besides
mod Takes
pub mod Marked
pub mod MarkLaws
pub mod TurnLaws
