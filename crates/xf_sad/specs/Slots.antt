-- Which pools fit the slots of the states.
use Rattle.std.specs.Prelude.{◌≡◌, ◌≢◌, ℕ, ◌+◌, ◌<◌, ◌==◌, ⊤, Bool, true, List, ◌∷◌, ◌++◌, Option, None, Some, length}
use Rattle.std.specs.List.{list_any}
use Rattle.xf_types.specs.declared.state.Sa.{Sa}
use Rattle.xf_cells.specs.Pools.{Kept}
use Rattle.xf_chain.specs.Chains.{slots_of}
use Rattle.xf_chain.specs.Families.{chain_at}
use Rattle.xf_chain.specs.Lists.{Misses}
use Rattle.xf_sadidx.specs.declared.area.StateArea.{StateArea}
use Rattle.xf_sadidx.specs.Layout.{order_of}

-- the slots of all states, in the order of adding
abbrev pub listed_in : StateArea → List ℕ → List ℕ
listed_in a image = slots_of (chain_at (order_of a) 0) image

-- a slot is in a list
abbrev pub is_in : ℕ → List ℕ → Bool
is_in slot slots = list_any (λ other. other == slot) slots

-- As many slots are there and as many out as states can be and are listed; the pool gives slots that aren't listed, and takes back those that are.
pub record PoolFits (all out : ℕ) (gives takes : ℕ → Type 0) (slots : ℕ) (list : List ℕ) : Type 0 where
  pub capacity : all ≡ slots
  pub taken : out ≡ length list
  pub below : (slot : ℕ) → gives slot → slot < slots
  pub free : (slot : ℕ) → gives slot → Misses slot list
  pub back : (slot : ℕ) → is_in slot list ≡ true → takes slot

-- what holds of the slot of a state, where there is one
abbrev pub Where : (ℕ → Type 0) → Option ℕ → Type 0
Where holds None = ⊤
Where holds (Some slot) = holds slot

-- A slot was given back.
pub record Back (slot : ℕ) (lasts : Bool) (before now : ℕ) (gave gives took takes : ℕ → Type 0) : Type 0 where
  pub less : now + 1 ≡ before
  pub gives_ : (other : ℕ) → other ≢ slot → gives other → gave other
  pub takes_ : lasts ≡ true → (other : ℕ) → other ≢ slot → took other → takes other

-- The same where a slot was named; else the pool is as before.
abbrev pub BackIf : Option ℕ → Bool → ℕ → ℕ → Bool → Bool → (ℕ → Type 0) → (ℕ → Type 0) → (ℕ → Type 0) → (ℕ → Type 0) → Type 0
BackIf None lasts before now was is gave gives took takes = Kept before now was is gave gives took takes
BackIf (Some slot) lasts before now was is gave gives took takes = Back slot lasts before now gave gives took takes

-- a state stands in the slot, between others
pub record IsListed (entries : List (ℕ × Sa)) (slot : ℕ) : Type 0 where
  pub front : List (ℕ × Sa)
  pub behind : List (ℕ × Sa)
  pub state : Sa
  pub whole : entries ≡ front ++ ((slot, state) ∷ behind)
