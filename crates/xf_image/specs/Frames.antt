-- Which words a change leaves.
use Rattle.std.specs.Prelude.{◌≡◌, ℕ, ◌<◌, ◌≤◌, List, length, slice_index}

-- there are as many words, and those before the first place and from the last one on are the same
pub record Frame (first last : ℕ) (image words : List ℕ) : Type 0 where
  pub size : length words ≡ length image
  pub below : (q : ℕ) → q < first → slice_index words q ≡ slice_index image q
  pub above : (q : ℕ) → last ≤ q → slice_index words q ≡ slice_index image q
