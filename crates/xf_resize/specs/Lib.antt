pub mod Rooms
pub mod Doubled
