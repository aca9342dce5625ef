-- Which slots were given.
use Rattle.std.specs.Prelude.{◌≡◌, ℕ, List, [], ◌∷◌}
use Rattle.std.specs.Int.{bit_at}
use Rattle.xf_grammar.specs.declared.row.Field.{Field}
use Rattle.xf_grammar.specs.Lookups.{slot_number}

-- the bit of each field's slot is set
abbrev pub AreMarked : ℕ → List Field → Type 0
AreMarked slots [] = Unit {0}
AreMarked slots (f ∷ fs) = (bit_at slots (slot_number f.slot) ≡ 1) × AreMarked slots fs
