pub mod View
pub mod Traffic
pub mod Windows
