pub mod Within
pub mod Leads
pub mod Faults
