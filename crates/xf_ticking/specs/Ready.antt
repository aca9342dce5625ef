-- What a tick rests on, and what it leaves.
use Rattle.std.specs.Prelude.{◌≡◌, ℕ, ◌<◌, ◌≤◌, true, List, All, length, slice_index}
use Rattle.xf_image.specs.Readings.{listed_in as policies_listed}
use Rattle.xf_spd.specs.Slots.{PoolFits as PolicyPoolFits}
use Rattle.xf_sad.specs.Slots.{PoolFits as StatePoolFits, listed_in as states_listed}
use Rattle.xf_rows.specs.declared.layout.Layout.{Layout}
use Rattle.xf_rows.specs.Layouts.{Fits}
use Rattle.xf_rows.specs.Values.{Beside}

-- the turn of each slot is held that a state has
abbrev pub HoldsListed : Layout → List ℕ → Beside → Type 0
HoldsListed layout words b = All (λ slot. b.held slot ≡ true) (states_listed layout.states words)

-- All lie in so many words, behind those that are the owner's own, and the turn of each slot is held that a state has.
pub record IsReady (layout : Layout) (size hidden : ℕ) (words : List ℕ) (b : Beside) : Type 0 where
  pub fits : Fits layout size
  pub behind : hidden ≤ layout.policies.base
  pub turns : HoldsListed layout words b

-- the pool fits the slots of the policies that are listed
abbrev pub FitsPolicies : Layout → List ℕ → ℕ → ℕ → (ℕ → Type 0) → (ℕ → Type 0) → Type 0
FitsPolicies layout words all out gives takes = PolicyPoolFits all out gives takes layout.policies.slots (policies_listed layout.policies words)

-- the pool fits the slots of the states that are listed
abbrev pub FitsStates : Layout → List ℕ → ℕ → ℕ → (ℕ → Type 0) → (ℕ → Type 0) → Type 0
FitsStates layout words all out gives takes = StatePoolFits all out gives takes layout.states.slots (states_listed layout.states words)

-- There are as many words, and but for the hidden ones those before the policies' and behind the time's are the same. There are as many values, and
-- the same turns are held.
pub record LeavesOutside (layout : Layout) (hidden : ℕ) (i j : List ℕ) (b c : Beside) : Type 0 where
  pub size : length j ≡ length i
  pub between : (q : ℕ) → hidden ≤ q → q < layout.policies.base → slice_index j q ≡ slice_index i q
  pub above : (q : ℕ) → layout.clock < q → slice_index j q ≡ slice_index i q
  pub count : length c.values ≡ length b.values
  pub turns : c.held ≡ b.held
