pub mod Spis
pub mod Table
