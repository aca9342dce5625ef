pub mod Tried
pub mod OnSlot
pub mod Lent
pub mod Taken
pub mod Kept
pub mod Whole
