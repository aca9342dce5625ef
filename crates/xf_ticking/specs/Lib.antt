pub mod Counted
pub mod Dues
pub mod Entered
pub mod Ready
pub mod Told
pub mod Walks
