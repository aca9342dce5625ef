pub mod Answering
pub mod Histories
pub mod MergedLists
pub mod Nexts
pub mod Numbers
pub mod Since
