-- The words after the trees were emptied.
use Rattle.std.specs.Prelude.{ℕ, zero, suc, ◌+◌, ◌*◌, List, slice_set}
use Rattle.xf_chain.specs.declared.family.Family.{Family}
use Rattle.xf_chain.specs.Families.{emptied}
use Rattle.xf_inexact.specs.declared.inexact.Inexact.{Inexact}
use Rattle.xf_inexact.specs.Places.{count_of}

-- the words of roots and of heads of chains, which lie in a row
abbrev pub tops_of : Inexact → Family
tops_of x = record {
  heads = x.base;
  count = 64 + 12 * x.area.slots;
  links = x.base + 64 + 12 * x.area.slots;
  slots = x.area.slots;
}

-- the words with no tree at a root and no policy in a chain
unfoldable pub tops_cleared : Inexact → List ℕ → List ℕ
tops_cleared x image = emptied x.base (64 + 12 * x.area.slots) image

-- the words with 0 at so many places, each 8 behind the one before
abbrev pub nexts_cleared : ℕ → ℕ → List ℕ → List ℕ
nexts_cleared place zero image = image
nexts_cleared place (suc more) image = nexts_cleared (place + 8) more (slice_set image place 0)

-- the words with all nodes free, each before the next one
unfoldable pub all_freed : Inexact → List ℕ → List ℕ
all_freed x image =
    nexts_cleared (x.base + 72 + 13 * x.area.slots) (count_of x)
    (slice_set (slice_set image (x.base + 64 + 13 * x.area.slots) 0) (x.base + 65 + 13 * x.area.slots) 0)
