pub mod Fetches
pub mod BlockLaws
pub mod CodeLaws
pub mod TemplateLaws
pub mod PolicyLaws
pub mod StateLaws
