pub mod Numbers
pub mod Spelling
pub mod Reading
pub mod Text
pub mod Written
pub mod Prefixes
