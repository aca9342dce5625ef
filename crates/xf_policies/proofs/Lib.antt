pub mod Others
pub mod Cursors
pub mod Swept
pub mod Answered
pub mod Shown
pub mod Gathered
