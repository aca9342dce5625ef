pub mod View
pub mod Shown
pub mod Alone
pub mod Answering
pub mod Laws
