pub mod CutLaws
pub mod FindingLaws
pub mod PlacingLaws
pub mod HitLaws
pub mod BestLaws
pub mod PartLaws
pub mod TurnLaws
