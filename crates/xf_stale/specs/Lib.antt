pub mod StalePart
pub mod StaleLaws
