-- The entries that clap keeps of uses.
use Rattle.std.proofs.Common.{◌≡◌, ◌∙◌, ◌||◌, Bool, true, false, refl, ap, List, [], ◌∷◌, ◌++◌, map, Some, None, true≢false, codes}
use Rattle.std.specs.Str.{bytes_eq}
use Rattle.clap.specs.Walk.{Row, Text, at_row, has_row, more_values, used, with_values, without}
use Rattle.clap.specs.Faults.{use_fault}
use Rattle.clap.specs.declared.error.kind.ErrorKind.TheVariants as kind
use Rattle.clap.specs.declared.builder.value_parser.Reading.{Reading}
use Rattle.clap.specs.declared.builder.value_parser.Reading.TheVariants as reading
use Rattle.clap.specs.declared.parser.matches.ValueSource.{ValueSource}
use Rattle.clap.specs.declared.parser.matches.ValueSource.TheVariants.{CommandLine}
use Rattle.xf_words.specs.Uses.{OptionRow, Use, has_use}
use Rattle.xf_words.specs.Applications.{rule_built, entry_of}

pub has_row-uses : (name : Text) (uses : List Use) → has_row name (map entry_of uses) ≡ has_use name uses
has_row-uses name [] = refl
has_row-uses name (u ∷ us) = ap (λ b. bytes_eq u.option.name name || b) (has_row-uses name us)

pub map-last : (uses : List Use) (u : Use) → map entry_of (uses ++ u ∷ []) ≡ map entry_of uses ++ entry_of u ∷ []
map-last [] u = refl
map-last (v ∷ vs) u = ap (λ xs. entry_of v ∷ xs) (map-last vs u)

without-none : (id : Text) (rows : List Row) → has_row id rows ≡ false → without id rows ≡ rows
without-none id [] e = refl
without-none id (r ∷ rs) e = go (bytes_eq r.id id) refl e (without-none id rs)
  where
    go : (b : Bool) → bytes_eq r.id id ≡ b → (b || has_row id rs) ≡ false → (has_row id rs ≡ false → without id rs ≡ rs)
        → without id (r ∷ rs) ≡ r ∷ rs
    go true t f rest = absurd (true≢false f)
    go false t f rest = rw t (ap (λ xs. r ∷ xs) (rest f))

-- the entry of an id that has none comes last
pub at_row-none : (id : Text) (change : Row → List Row) (missing rows : List Row) → has_row id rows ≡ false
    → at_row id change missing rows ≡ rows ++ missing
at_row-none id change missing [] e = refl
at_row-none id change missing (r ∷ rs) e = go (bytes_eq r.id id) refl e (at_row-none id change missing rs)
  where
    go : (b : Bool) → bytes_eq r.id id ≡ b → (b || has_row id rs) ≡ false
        → (has_row id rs ≡ false → at_row id change missing rs ≡ rs ++ missing)
        → at_row id change missing (r ∷ rs) ≡ r ∷ (rs ++ missing)
    go true t f rest = absurd (true≢false f)
    go false t f rest = rw t (ap (λ xs. r ∷ xs) (rest f))

-- ---- one use

-- the values that clap is given for a use
abbrev pub given_values : Bool → Text → List Text
given_values true value = value ∷ []
given_values false value = []

abbrev new_entry : Text → Reading → ValueSource → List Text → Row
new_entry id how source values = record { id = id; values = values; count = None; source = Some source; reading = how }

with_values-none : (id : Text) (how : Reading) (source : ValueSource) (values : List Text) (rows : List Row) → has_row id rows ≡ false
    → with_values id how source values (without id rows) ≡ rows ++ new_entry id how source values ∷ []
with_values-none id how source values rows e =
    ap (λ xs. with_values id how source values xs) (without-none id rows e)
    ∙ at_row-none id (more_values source values) (new_entry id how source values ∷ []) rows e

-- the first use of an option makes its entry
pub used-first : (o : OptionRow) (value : Text) (rows : List Row) → (o.has_value ≡ false → value ≡ codes "true")
    → has_row o.name rows ≡ false
    → used (rule_built o) (given_values o.has_value value) rows ≡ rows ++ entry_of (record { option = o; value = value }) ∷ []
used-first o value rows flag e = go o.has_value refl
  where
    go : (b : Bool) → o.has_value ≡ b
        → used (rule_built o) (given_values o.has_value value) rows ≡ rows ++ entry_of (record { option = o; value = value }) ∷ []
    go true t = rw t (with_values-none o.name reading.AsWritten CommandLine (value ∷ []) rows e)
    go false t = rw (t, flag t) (with_values-none o.name reading.AsWritten CommandLine (codes "true" ∷ []) rows e)

-- it has no fault
pub use_fault-first : (o : OptionRow) (value : Text) (rows : List Row) → has_row o.name rows ≡ false
    → use_fault false (rule_built o) (given_values o.has_value value) rows ≡ []
use_fault-first o value rows e = go o.has_value refl
  where
    go : (b : Bool) → o.has_value ≡ b → use_fault false (rule_built o) (given_values o.has_value value) rows ≡ []
    go true t = rw (t, e) refl
    go false t = rw (t, e) refl

-- a second use is a fault
pub use_fault-again : (o : OptionRow) (value : Text) (rows : List Row) → has_row o.name rows ≡ true
    → use_fault false (rule_built o) (given_values o.has_value value) rows ≡ [] → ⊥
use_fault-again o value rows e = go o.has_value refl
  where
    go : (b : Bool) → o.has_value ≡ b → use_fault false (rule_built o) (given_values o.has_value value) rows ≡ [] → ⊥
    go true t f = let g : kind.ArgumentConflict ∷ [] ≡ [] = rw (t, e) at f in cc
    go false t f = let g : kind.ArgumentConflict ∷ [] ≡ [] = rw (t, e) at f in cc
