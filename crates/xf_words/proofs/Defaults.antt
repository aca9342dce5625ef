-- The entries of defaults, which are there beside those of the uses and change nothing that is asked of these.
use Rattle.std.proofs.Common.{◌≡◌, ◌∙◌, ◌||◌, not, if◌then◌else◌, Bool, cond, true, false, refl, sym, ap, List, [], ◌∷◌, ◌++◌, map, Option, Some, None, option_map, true≢false, codes}
use Rattle.std.specs.Prelude.{option_and_then, slice_get}
use Rattle.std.specs.List.{find, fold, list_all}
use Rattle.std.specs.Option.{option_map_or}
use Rattle.std.specs.Str.{bytes_eq}
use Rattle.clap.specs.Facts.{explicit_source}
use Rattle.clap.specs.Walk.{Row, Text, first_of, has_row, is_empty, more_values, with_default}
use Rattle.clap.specs.Takes.{is_given}
use Rattle.clap.specs.Faults.{default_fault, defaults_fault, given_default_fault}
use Rattle.clap.proofs.WalkLemmas.{both}
use Rattle.clap.specs.declared.builder.value_parser.Reading.TheVariants as reading
use Rattle.clap.specs.declared.parser.matches.ValueSource.{ValueSource}
use Rattle.clap.specs.declared.parser.matches.ValueSource.TheVariants.{CommandLine, DefaultValue}
use Rattle.xf_words.specs.Uses.{OptionRow, Use, has_use, is_named, is_use_of, value_of}
use Rattle.xf_words.specs.Applications.{entries_of, entry_of, rule_built}
use Rattle.xf_words.proofs.KindLemmas.{both_none}
use Rattle.xf_words.proofs.EntryLemmas.{at_row-none}

default_fault-option : (rows : List Row) (o : OptionRow) → default_fault rows (rule_built o) ≡ []
default_fault-option rows o = go o.has_value refl (has_row o.name rows)
  where
    go : (b : Bool) → o.has_value ≡ b → (c : Bool)
        → (if c || is_empty (rule_built o).defaults then [] else given_default_fault (rule_built o) (rule_built o).defaults) ≡ []
    go true t true = refl
    go true t false = rw t refl
    go false t true = refl
    go false t false = rw t refl

-- no default is a fault
pub defaults_fault-options : (rows : List Row) (options : List OptionRow) → defaults_fault rows (map rule_built options) ≡ []
unfolding defaults_fault
defaults_fault-options rows [] = refl
defaults_fault-options rows (o ∷ os) =
    both_none _ _ (default_fault-option rows o) (defaults_fault-options (with_default rows (rule_built o)) os)

-- ---- one default

-- the entry of an option without a value that was not used
abbrev false_entry : Text → Row
false_entry id = record { id = id; values = codes "false" ∷ []; count = None; source = Some DefaultValue; reading = reading.AsWritten }

data Default (rows : List Row) (o : OptionRow) : Type 0 where
  none : with_default rows (rule_built o) ≡ rows → Default rows o
  last : o.has_value ≡ false → with_default rows (rule_built o) ≡ rows ++ false_entry o.name ∷ [] → Default rows o

default_is : (rows : List Row) (o : OptionRow) → Default rows o
default_is rows o = go (has_row o.name rows) refl o.has_value refl
  where
    go : (b : Bool) → has_row o.name rows ≡ b → (c : Bool) → o.has_value ≡ c → Default rows o
    go true t c u = none (rw t refl)
    go false t true u = none (rw (t, u) refl)
    go false t false u =
        last u (rw (t, u) (at_row-none o.name (more_values DefaultValue (codes "false" ∷ [])) (false_entry o.name ∷ []) rows t))

-- ---- which options have an entry, by a test that holds of the words and not of a default

abbrev entry_named : Text → List Row → Option Row
entry_named name rows = find (λ (r : Row). bytes_eq r.id name) rows

module _ (test : Option ValueSource → Bool) (on_default : test (Some DefaultValue) ≡ false) (on_words : test (Some CommandLine) ≡ true) where
  abbrev passes : Text → List Row → Bool
  passes name rows = option_map_or (λ (r : Row). test r.source) (entry_named name rows) false

  passes-last : (name id : Text) (rows : List Row) → passes name (rows ++ false_entry id ∷ []) ≡ passes name rows
  passes-last name id [] = go (bytes_eq id name)
    where
      go : (b : Bool) → option_map_or (λ (r : Row). test r.source) (cond b (Some (false_entry id)) None) false ≡ false
      go true = on_default
      go false = refl
  passes-last name id (r ∷ rs) = go (bytes_eq r.id name) (passes-last name id rs)
    where
      go : (b : Bool) → passes name (rs ++ false_entry id ∷ []) ≡ passes name rs
          → option_map_or (λ (r : Row). test r.source) (cond b (Some r) (entry_named name (rs ++ false_entry id ∷ []))) false
          ≡ option_map_or (λ (r : Row). test r.source) (cond b (Some r) (entry_named name rs)) false
      go true e = refl
      go false e = e

  passes-defaults : (name : Text) (rows : List Row) (options : List OptionRow)
      → passes name (fold with_default rows (map rule_built options)) ≡ passes name rows
  passes-defaults name rows [] = refl
  passes-defaults name rows (o ∷ os) = passes-defaults name (with_default rows (rule_built o)) os ∙ go (default_is rows o)
    where
      go : Default rows o → passes name (with_default rows (rule_built o)) ≡ passes name rows
      go (none e) = ap (passes name) e
      go (last u e) = ap (passes name) e ∙ passes-last name o.name rows

  passes-uses : (name : Text) (uses : List Use) → passes name (map entry_of uses) ≡ has_use name uses
  passes-uses name [] = refl
  passes-uses name (u ∷ us) = go (bytes_eq u.option.name name) (passes-uses name us)
    where
      go : (b : Bool) → passes name (map entry_of us) ≡ has_use name us
          → option_map_or (λ (r : Row). test r.source) (cond b (Some (entry_of u)) (entry_named name (map entry_of us))) false
          ≡ (b || has_use name us)
      go true e = on_words
      go false e = e

  -- an option has such an entry exactly where it was used
  passes-entries : (name : Text) (options : List OptionRow) (uses : List Use) → passes name (entries_of options uses) ≡ has_use name uses
  passes-entries name options uses = passes-defaults name (map entry_of uses) options ∙ passes-uses name uses

pub is_given-entries : (name : Text) (options : List OptionRow) (uses : List Use) → is_given name (entries_of options uses) ≡ has_use name uses
is_given-entries name options uses = passes-entries explicit_source refl refl name options uses

-- ---- the values

-- each option with the name has a value
abbrev pub is_valued : Text → List OptionRow → Bool
is_valued name options = list_all (λ o. o.has_value || not (is_named name o)) options

other_name : (a b : Bool) → (a || not b) ≡ true → a ≡ false → b ≡ false
other_name a true e f = absurd (true≢false (sym e ∙ ap (λ x. x || false) f))
other_name a false e f = refl

first_of-last : (name id : Text) (rows : List Row) → bytes_eq id name ≡ false → first_of name (rows ++ false_entry id ∷ []) ≡ first_of name rows
first_of-last name id [] e = rw e refl
first_of-last name id (r ∷ rs) e = go (bytes_eq r.id name) (first_of-last name id rs e)
  where
    go : (b : Bool) → first_of name (rs ++ false_entry id ∷ []) ≡ first_of name rs
        → option_and_then (λ (r : Row). slice_get r.values 0) (cond b (Some r) (entry_named name (rs ++ false_entry id ∷ [])))
        ≡ option_and_then (λ (r : Row). slice_get r.values 0) (cond b (Some r) (entry_named name rs))
    go true e = refl
    go false e = e

first_of-defaults : (name : Text) (rows : List Row) (options : List OptionRow) → is_valued name options ≡ true
    → first_of name (fold with_default rows (map rule_built options)) ≡ first_of name rows
first_of-defaults name rows [] v = refl
first_of-defaults name rows (o ∷ os) v = first_of-defaults name (with_default rows (rule_built o)) os (both _ _ v).1 ∙ go (default_is rows o)
  where
    go : Default rows o → first_of name (with_default rows (rule_built o)) ≡ first_of name rows
    go (none e) = ap (first_of name) e
    go (last u e) =
        ap (first_of name) e ∙ first_of-last name o.name rows (other_name o.has_value (is_named name o) (both _ _ v).0 u)

first_of-uses : (name : Text) (uses : List Use) → first_of name (map entry_of uses) ≡ value_of name uses
first_of-uses name [] = refl
first_of-uses name (u ∷ us) = go (bytes_eq u.option.name name) (first_of-uses name us)
  where
    go : (b : Bool) → first_of name (map entry_of us) ≡ value_of name us
        → option_and_then (λ (r : Row). slice_get r.values 0) (cond b (Some (entry_of u)) (entry_named name (map entry_of us)))
        ≡ option_map (λ (v : Use). v.value) (cond b (Some u) (find (is_use_of name) us))
    go true e = refl
    go false e = e

-- the value that was found is the use's
pub first_of-entries : (name : Text) (options : List OptionRow) (uses : List Use) → is_valued name options ≡ true
    → first_of name (entries_of options uses) ≡ value_of name uses
first_of-entries name options uses v = first_of-defaults name (map entry_of uses) options v ∙ first_of-uses name uses
