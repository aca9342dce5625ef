-- The numbers of a command are in their ranges.
use Rattle.std.proofs.Common.{◌≡◌, ◌≤◌, ◌^◌, ◌-◌, ◌&&◌, cond, ℕ, Bool, true, false, nat_le, if◌then◌else◌, refl, List, [], ◌∷◌, Option, None, Some, IfSome, option_map, arith}
use Rattle.std.specs.List.{find}
use Rattle.std.specs.Str.{bytes_eq}
use Rattle.std.proofs.lemmas.Bool.{leb-true}
use Rattle.clap.proofs.WalkLemmas.{both}
use Rattle.xf_words.specs.declared.command.Command.TheVariants as command
use Rattle.xf_words.specs.Numbers.{Word, is_decimal, number_in, value_from}
use Rattle.xf_words.specs.Uses.{Use, uses_of}
use Rattle.xf_words.specs.Commands.{CommandRow, IsInRange, asked_of, chosen_by, command_of, command_rows, gen_by, is_called, number_of, with_uses}

abbrev IsBetween : ℕ → ℕ → ℕ → Type 0
IsBetween low high n = (low ≤ n) × (n ≤ high)

between : (low high : ℕ) (word : Word) → IfSome (number_in low high word) (IsBetween low high)
unfolding number_in
between low high word = go (is_decimal word && (nat_le low (value_from 0 word) && nat_le (value_from 0 word) high)) refl
  where
    go : (b : Bool) → (is_decimal word && (nat_le low (value_from 0 word) && nat_le (value_from 0 word) high)) ≡ b
        → IfSome (if b then Some (value_from 0 word) else None) (IsBetween low high)
    go false e = tt
    go true e =
        let p = both (nat_le low (value_from 0 word)) _ (both (is_decimal word) _ e).1 in
        (leb-true _ _ p.0, leb-true _ _ p.1)

number_between : (low high : ℕ) (value : Option Word) → IfSome (number_of low high value) (IsBetween low high)
number_between low high None = tt
number_between low high (Some word) = between low high word

gen_in_range : (seed : Option Word) → IfSome (gen_by seed) IsInRange
gen_in_range seed = go (number_of 0 (2 ^ 64 - 1) seed) (number_between 0 (2 ^ 64 - 1) seed)
  where
    go : (o : Option ℕ) → IfSome o (IsBetween 0 (2 ^ 64 - 1)) → IfSome (option_map command.Gen o) IsInRange
    go None h = tt
    go (Some n) h = omega (arith, h.1)

-- ---- over the table

abbrev AsksInRange : CommandRow → Type 0
AsksInRange row = (uses : List Use) → IfSome (row.asked uses) IsInRange

abbrev AllAskInRange : List CommandRow → Type 0
AllAskInRange [] = Unit {0}
AllAskInRange (row ∷ rows) = AsksInRange row × AllAskInRange rows

used_in_range : (row : CommandRow) (uses : Option (List Use)) → AsksInRange row → IfSome (asked_of (with_uses row uses)) IsInRange
used_in_range row None h = tt
used_in_range row (Some uses) h = h uses

chosen_in_range : (word : Word) (rest : List Word) (rows : List CommandRow) → AllAskInRange rows
    → IfSome (asked_of (chosen_by (find (is_called word) rows) rest)) IsInRange
chosen_in_range word rest [] all = tt
chosen_in_range word rest (row ∷ rows) all = go (bytes_eq row.name word) (chosen_in_range word rest rows all.1)
  where
    go : (b : Bool) → IfSome (asked_of (chosen_by (find (is_called word) rows) rest)) IsInRange
        → IfSome (asked_of (chosen_by (cond b (Some row) (find (is_called word) rows)) rest)) IsInRange
    go true h = used_in_range row (uses_of row.options rest) all.0
    go false h = h

pub command_in_range : (words : List Word) → IfSome (command_of words) IsInRange
command_in_range [] = tt
command_in_range (word ∷ rest) = chosen_in_range word rest command_rows (λ uses. tt, (λ uses. tt, (λ uses. gen_in_range _, tt)))
