-- Words in which the slots that aren't listed are free.
use Rattle.std.specs.Prelude.{◌≡◌, ◌≢◌, ℕ, ◌<◌, ◌≤◌, List, length, slice_index}

-- of so many statuses those of listed slots are 1 as before, and all others 0; the words behind them are the same
pub record AreFreed (slots : ℕ) (old new : List ℕ) : Type 0 where
  pub size : length new ≡ length old
  pub listed : (slot : ℕ) → slot < slots → slice_index old slot ≡ 1 → slice_index new slot ≡ 1
  pub free : (slot : ℕ) → slot < slots → slice_index old slot ≢ 1 → slice_index new slot ≡ 0
  pub behind : (place : ℕ) → slots ≤ place → slice_index new place ≡ slice_index old place
