-- From fields to marks.
use Rattle.std.specs.Prelude.{ℕ, ◌^◌, ◌-◌, List, Option, None, Some, unwrap_or, bit_and}
use Rattle.xf_types.specs.declared.network.Mark.{Mark}
use Rattle.xf_grammar.specs.declared.row.Field.{Field}
use Rattle.xf_grammar.specs.declared.row.Slot.TheVariants as slot
use Rattle.xf_grammar.specs.Lookups.{u32_at}

-- a mark without a mask is compared whole, and no mark masks all away
abbrev pub mark_by : Option ℕ → Option ℕ → Mark
mark_by None mask = record { value = 0; mask = 0 }
mark_by (Some value) mask = record { value = value; mask = unwrap_or mask (2 ^ 32 - 1) }

-- the line's mark
abbrev pub mark_of : List Field → Mark
mark_of fs = mark_by (u32_at slot.Mark fs) (u32_at slot.Mask fs)

-- the mark that a state is sought by: the bits of the value that the mask keeps
abbrev pub sought_mark : Mark → ℕ
sought_mark mark = bit_and mark.value mark.mask
