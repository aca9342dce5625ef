pub mod Rule
pub mod Rows
pub mod Growth
pub mod Plays
pub mod Tables
pub mod Ends
pub mod Emptied
