pub mod Meaning
pub mod ImagePart
pub mod ImageLaws
pub mod ImageSays
pub mod PinPart
pub mod PinLaws
pub mod Begins
