pub mod Tells
pub mod Ages
pub mod Places
pub mod Passed
pub mod Quiet
pub mod Enters
