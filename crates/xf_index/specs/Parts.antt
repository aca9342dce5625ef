-- Lists that a test parts: it holds of a front, and of none behind.
use Rattle.std.specs.Prelude.{◌≡◌, ℕ, ⊤, Bool, true, false, List, [], ◌∷◌, ◌++◌}
use Rattle.xf_index.specs.Indexes.{AllAre}

-- a test has this answer for each record
abbrev pub AllOf : {A : Type 0} → (A → Bool) → Bool → List A → Type 0
AllOf test b [] = ⊤
AllOf test b (r ∷ rs) = (test r ≡ b) × AllOf test b rs

-- after one that fails, all fail
abbrev pub Falls : {A : Type 0} → (A → Bool) → List A → Type 0
Falls test [] = ⊤
Falls test (r ∷ rs) = (test r ≡ false → AllOf test false rs) × Falls test rs

-- The entries in two parts: the test holds of each record of the front, and of none of the back.
pub record Parted {A : Type 0} (test : A → Bool) (entries : List (ℕ × A)) : Type 0 where
  pub front : List (ℕ × A)
  pub back : List (ℕ × A)
  pub whole : entries ≡ front ++ back
  pub before : AllAre test true front
  pub after : AllAre test false back
