pub mod Rounds
pub mod Parting
pub mod Held
pub mod Seating
pub mod Gathering
pub mod Exchanges
pub mod Passes
pub mod Entering
