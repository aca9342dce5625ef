pub mod AddressLemmas
pub mod Decisions
pub mod Derived
pub mod EqualReplies
pub mod SameFields
