pub mod Numbers
pub mod Uses
pub mod Commands
pub mod Applications
