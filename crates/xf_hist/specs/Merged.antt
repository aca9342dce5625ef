-- Several lists of receipts as one.
use Rattle.std.specs.Prelude.{◌≡◌, ℕ, List, [], ◌∷◌, ◌++◌, length, AllPairs}
use Rattle.std.specs.declared.vec.Vec.{Vec}
use Rattle.xf_types.specs.declared.call.Receipt.{Receipt}

-- all receipts of the lists, one list after another
abbrev pub all_of : {Z : Type 0} → List (Vec Receipt Z) → List Receipt
all_of [] = []
all_of (v ∷ vs) = v.items ++ all_of vs

abbrev pub total : {Z : Type 0} → List (Vec Receipt Z) → ℕ
total vs = length (all_of vs)

-- no two have the same number
abbrev pub AreApart : List Receipt → Type 0
AreApart rs = AllPairs (λ a b. a.number ≡ b.number → ⊥) rs
