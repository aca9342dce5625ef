-- The slots of a list: which record stands in which one, and how many are listed and retired.
use Rattle.std.specs.Prelude.{◌≡◌, ℕ, zero, suc, ◌+◌, ◌==◌, ◌<◌, ◌≤◌, nat_le, Bool, List, length, Option, Some, slice_index, Contains}
use Rattle.std.specs.Option.{option_map}
use Rattle.xf_types.specs.declared.policy.Policy.{Policy}
use Rattle.xf_types.specs.declared.state.Sa.{Sa}
use Rattle.xf_types.specs.IsMachine.{IsShownPart}
use Rattle.xf_views.specs.TurnPart.{one_if}
use Rattle.xf_invariant.specs.Meaning.{Told}

-- how many numbers below this one pass the test
abbrev pub count_below : (ℕ → Bool) → ℕ → ℕ
count_below test zero = 0
count_below test (suc n) = count_below test n + one_if (test n)

-- of so many slots from a first one on, how many are listed, and how many are retired
abbrev pub listed_slots : List ℕ → ℕ → ℕ → ℕ
listed_slots image first size = count_below (λ k. slice_index image (first + k) == 1) size

abbrev pub retired_slots : List ℕ → ℕ → ℕ → ℕ
retired_slots image first size = count_below (λ k. nat_le 2 (slice_index image (first + k))) size

-- the records have slots of their list: a listed slot has one of them, each has a slot, no two have one key, and they are as many as listed slots; the
-- list's capacity is the number of its slots
pub record IsPool {X : Type 0} (key : X → ℕ) (at : List ℕ → ℕ → Option ℕ) (first size : ℕ) (image : List ℕ) (records : List X) (capacity : ℕ) : Type 0 where
  pub listed : (slot : ℕ) → first ≤ slot → slot < first + size → slice_index image slot ≡ 1 → (x : X) × Contains records x × (at image slot ≡ Some (key x))
  pub placed : (x : X) → Contains records x → (slot : ℕ) × (at image slot ≡ Some (key x)) × (slice_index image slot ≡ 1)
  pub once : (j k n : ℕ) → at image j ≡ Some n → at image k ≡ Some n → j ≡ k
  pub live : listed_slots image first size ≡ length records
  pub room : capacity ≡ size

-- the id of the state that an image lists at a slot
abbrev pub sid_at : (List ℕ → ℕ → Option (Sa × ℕ)) → List ℕ → ℕ → Option ℕ
sid_at lists image slot = option_map (λ (x : Sa × ℕ). x.0.sid) (lists image slot)

-- each image that stands for what is told has a pool of policies, and one of states behind it
abbrev pub ArePools : (List ℕ → Told → Type 0) → (List ℕ → ℕ → Option (Sa × ℕ)) → (List ℕ → ℕ → Option ℕ) → ℕ → ℕ → Type 0
ArePools good lists index_at policies states =
    (image : List ℕ) (t : Told) → IsShownPart t.shown → good image t
    → IsPool (λ (p : Policy). p.index) index_at 0 policies image t.shown.policies t.shown.max_policies
    × IsPool (λ (x : Sa). x.sid) (sid_at lists) policies states image t.shown.states t.shown.max_states
