pub mod Keywords
pub mod Tables
pub mod Heads
pub mod Numbers
pub mod Grammar
pub mod Seen
pub mod Lookups
pub mod Given
