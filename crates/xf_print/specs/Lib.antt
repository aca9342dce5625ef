pub mod Numbers
pub mod Words
pub mod Selectors
pub mod Limits
pub mod Records
pub mod Replies
pub mod Receipts
pub mod BadLine
