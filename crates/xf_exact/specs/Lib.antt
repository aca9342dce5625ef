pub mod Queries
pub mod Walks
pub mod Hits
pub mod Parts
pub mod WalkLaws
pub mod HitLaws
pub mod PartLaws
