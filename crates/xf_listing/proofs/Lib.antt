pub mod Wholes
pub mod Planted
pub mod Free
pub mod Reading
pub mod Named
pub mod Changing
pub mod Loading
pub mod Settled
