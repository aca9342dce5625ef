pub mod FreeLemmas
pub mod NumberLemmas
