pub mod Pools
pub mod RetiredLaws
