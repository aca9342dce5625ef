-- Which pools fit the slots of the policies.
use Rattle.std.specs.Prelude.{◌≡◌, ℕ, ◌<◌, ◌==◌, ⊤, Bool, true, List, Option, None, Some, length}
use Rattle.std.specs.List.{list_any}
use Rattle.xf_chain.specs.Lists.{Misses}

-- a slot is in a list
abbrev pub is_in : ℕ → List ℕ → Bool
is_in slot slots = list_any (λ other. other == slot) slots

-- As many slots are there and as many out as policies can be and are listed; the pool gives slots that aren't listed, and takes back those that are.
pub record PoolFits (all out : ℕ) (gives takes : ℕ → Type 0) (slots : ℕ) (list : List ℕ) : Type 0 where
  pub capacity : all ≡ slots
  pub taken : out ≡ length list
  pub below : (slot : ℕ) → gives slot → slot < slots
  pub free : (slot : ℕ) → gives slot → Misses slot list
  pub back : (slot : ℕ) → is_in slot list ≡ true → takes slot

-- what holds of the slot of a policy, where there is one
abbrev pub Where : (ℕ → Type 0) → Option ℕ → Type 0
Where holds None = ⊤
Where holds (Some slot) = holds slot
