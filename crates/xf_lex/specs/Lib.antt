pub mod Quotes
pub mod Lexing
pub mod Lines
pub mod LogicalLines
pub mod Shown
pub mod Gives
pub mod Plain
