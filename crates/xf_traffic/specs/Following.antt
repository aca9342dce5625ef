-- What words are once they followed a reply.
use Rattle.std.specs.Prelude.{◌≡◌, ℕ, Bool, List, ◌∷◌, ◌++◌}
use Rattle.xf_types.specs.declared.state.Sa.{Sa}
use Rattle.xf_types.specs.Machine.{Shown}
use Rattle.xf_index.specs.Indexes.{records_in}
use Rattle.xf_image.specs.Frames.{Frame}
use Rattle.xf_sadidx.specs.declared.area.StateArea.{StateArea}
use Rattle.xf_sadidx.specs.Layout.{end_of}
use Rattle.xf_sadimage.specs.States.{StatesStand}
use Rattle.xf_sadlist.specs.Listed.{with_states}
use Rattle.xf_rows.specs.Fates.{entries_told}

-- The state in the slot left where it ended, and is dying where it was warned of; then words below a place may have changed.
pub record Follows (a : StateArea) (hidden slot : ℕ) (ended soft : Bool) (image words : List ℕ) : Type 0 where
  pub between : List ℕ
  pub frame : Frame a.base (end_of a) image between
  pub after : Frame 0 hidden between words
  pub stands : (s : Shown) (front back : List (ℕ × Sa)) (x : Sa) → StatesStand a image s (front ++ ((slot, x) ∷ back))
      → StatesStand a between (with_states s (records_in (entries_told ended soft front slot x back))) (entries_told ended soft front slot x back)

-- No word was stored, and words may be stored into as before.
pub record IsIdle (i j : List ℕ) (before after : Bool) : Type 0 where
  pub words : j ≡ i
  pub begun : after ≡ before
