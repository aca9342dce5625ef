-- When chains are an index of a list of entries, each a slot and the record in it.
use Rattle.std.specs.Prelude.{◌≡◌, ℕ, ◌<◌, ⊤, Bool, false, ◌==◌, cond, List, [], ◌∷◌, Option, None, Some}
use Rattle.xf_chain.specs.declared.family.Family.{Family}
use Rattle.xf_chain.specs.Families.{chain_at, put_in, IsOf}
use Rattle.xf_chain.specs.Lists.{IsChain}

-- the slots of the entries
abbrev pub slots_in : {A : Type 0} → List (ℕ × A) → List ℕ
slots_in [] = []
slots_in (e ∷ es) = e.0 ∷ slots_in es

-- the records of the entries
abbrev pub records_in : {A : Type 0} → List (ℕ × A) → List A
records_in [] = []
records_in (e ∷ es) = e.1 ∷ records_in es

-- a record's chain is the one with a number
abbrev pub is_number : ℕ → Option ℕ → Bool
is_number number None = false
is_number number (Some own) = own == number

-- the slots of the entries whose record stands in the chain with a number
abbrev pub picked : {A : Type 0} → (A → Option ℕ) → ℕ → List (ℕ × A) → List ℕ
picked key number [] = []
picked key number (e ∷ es) = cond (is_number number (key e.1)) (e.0 ∷ picked key number es) (picked key number es)

-- the same for the chain of a record, where it stands in one
abbrev pub picked_of : {A : Type 0} → (A → Option ℕ) → Option ℕ → List (ℕ × A) → List ℕ
picked_of key None es = []
picked_of key (Some number) es = picked key number es

-- Each chain has the slots of just the entries whose record stands in it, in their order.
pub record Indexed {A : Type 0} (family : Family) (image : List ℕ) (key : A → Option ℕ) (entries : List (ℕ × A)) : Type 0 where
  pub chains : (number : ℕ) → number < family.count → IsChain (chain_at family number) image (picked key number entries)

-- what is read at each slot is what its record wants
abbrev pub Holds : {A B : Type 0} → (ℕ → B) → (A → B) → List (ℕ × A) → Type 0
Holds read want [] = ⊤
Holds read want (e ∷ es) = (read e.0 ≡ want e.1) × Holds read want es

-- a test has this answer for each record
abbrev pub AllAre : {A : Type 0} → (A → Bool) → Bool → List (ℕ × A) → Type 0
AllAre test b [] = ⊤
AllAre test b (e ∷ es) = (test e.1 ≡ b) × AllAre test b es

-- the words with each entry put at the front of its chain, the last entry first
abbrev pub rebuilt : {A : Type 0} → Family → (A → Option ℕ) → List ℕ → List (ℕ × A) → List ℕ
rebuilt family key image [] = image
rebuilt family key image (e ∷ es) = put_in family (rebuilt family key image es) (key e.1) None e.0

-- each record's chain is one of these
abbrev pub AreOf : {A : Type 0} → Family → (A → Option ℕ) → List (ℕ × A) → Type 0
AreOf family key [] = ⊤
AreOf family key (e ∷ es) = IsOf family (key e.1) × AreOf family key es
