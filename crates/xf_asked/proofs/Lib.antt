pub mod Walks
pub mod FieldLaws
pub mod WordLaws
pub mod UnderLaws
pub mod AskedLaws
