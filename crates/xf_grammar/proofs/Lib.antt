pub mod HexValues
pub mod GivenLaws
pub mod PendingLaws
