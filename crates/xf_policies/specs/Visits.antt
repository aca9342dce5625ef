-- What a walk over the list makes of what it shows the policies to.
use Rattle.std.specs.Prelude.{◌≡◌, ℕ, ◌+◌, ◌<◌, ◌≤◌, ◌^◌, cond, List, [], ◌∷◌, ◌++◌, Option, length}
use Rattle.xf_types.specs.declared.network.Dir.{Dir}
use Rattle.xf_types.specs.declared.policy.Policy.{Policy}
use Rattle.xf_types.specs.Same.{same_dir}
use Rattle.xf_chain.specs.Lists.{first_of}
use Rattle.xf_index.specs.Indexes.{slots_in, records_in}

-- one policy after the other
abbrev pub Visited : {V : Type 0} → (V → Policy → V → Type 0) → V → List Policy → V → Type 0
Visited {V} goes v [] w = v ≡ w
Visited {V} goes v (p ∷ ps) w = (u : V) × (goes v p u × Visited goes u ps w)

-- Those in front were shown, and those behind come yet, so many at most.
pub record Walked {V : Type 0} (goes : V → Policy → V → Type 0) (first now : V) (entries : List (ℕ × Policy)) (at : Option ℕ) (left : ℕ) : Type 0 where
  pub front : List (ℕ × Policy)
  pub back : List (ℕ × Policy)
  pub at_is : at ≡ first_of (slots_in back)
  pub left_is : length back ≤ left
  pub whole : entries ≡ front ++ back
  pub visited : Visited goes first (records_in front) now

-- a count of 32 bits is more by this much, where it has room
abbrev pub IsMore : ℕ → ℕ → ℕ → Type 0
IsMore more old new = old + 1 < 2 ^ 32 → new ≡ old + more

-- it is more by one for a policy of the direction
abbrev pub IsMoreFor : Dir → Policy → ℕ → ℕ → Type 0
IsMoreFor dir p old new = IsMore (cond (same_dir p.spec.dir dir) 1 0) old new
