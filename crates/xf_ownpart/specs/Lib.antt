pub mod Lists
pub mod OwnPart
pub mod Turns
pub mod OwnLaws
pub mod OwnSays
pub mod Begins
