pub mod LegalLaws
pub mod Honest
pub mod HonestLaws
pub mod AgainPart
pub mod AgainLaws
