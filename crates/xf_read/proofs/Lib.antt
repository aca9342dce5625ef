pub mod SelectorLaws
pub mod TemplateLaws
