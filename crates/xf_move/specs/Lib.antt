pub mod OnSlot
pub mod Handled
pub mod HandleLaws
