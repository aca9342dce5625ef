pub mod Numbers
pub mod Tables
pub mod Fates
pub mod Founds
pub mod Walks
pub mod Ages
pub mod FreeSpis
pub mod Joined
