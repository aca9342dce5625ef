-- What an image lists at its slots.
use Rattle.std.specs.Prelude.{◌≡◌, ℕ, List, Option, Some, Contains}
use Rattle.xf_types.specs.declared.state.Sa.{Sa}
use Rattle.xf_types.specs.Machine.{Shown}
use Rattle.xf_types.specs.IsMachine.{IsShownPart}
use Rattle.xf_invariant.specs.Meaning.{Told}

-- what a slot lists is one of the states, with the time; each state is listed at a slot, and at one alone
pub record ListsStates (lists : List ℕ → ℕ → Option (Sa × ℕ)) (image : List ℕ) (s : Shown) : Type 0 where
  pub listed : (slot : ℕ) (x : Sa × ℕ) → lists image slot ≡ Some x → Contains s.states x.0 × (x.1 ≡ s.time)
  pub placed : (x : Sa) → Contains s.states x → (slot : ℕ) × (lists image slot ≡ Some (x, s.time))
  pub once : (j k : ℕ) (x y : Sa × ℕ) → lists image j ≡ Some x → lists image k ≡ Some y → x.0.sid ≡ y.0.sid → j ≡ k

-- so does each image that stands for what is told
abbrev pub IsListing : (List ℕ → Told → Type 0) → (List ℕ → ℕ → Option (Sa × ℕ)) → Type 0
IsListing good lists =
    (image : List ℕ) (t : Told) → IsShownPart t.shown → good image t → ListsStates lists image t.shown
