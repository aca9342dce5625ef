pub mod Chains
pub mod Lists
pub mod Families
pub mod Columns
