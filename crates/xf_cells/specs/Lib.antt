pub mod Words
pub mod Pools
pub mod Hashing
pub mod Frees
pub mod OneSlot
pub mod Backs
