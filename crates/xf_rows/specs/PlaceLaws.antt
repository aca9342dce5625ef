-- Words and values stand while other words are written, and while policies change.
use Rattle.std.specs.Prelude.{◌≡◌, ℕ, ◌≤◌, List, length, slice_index}
use Rattle.xf_types.specs.declared.policy.Policy.{Policy}
use Rattle.xf_types.specs.Machine.{Machine, Shown}
use Rattle.xf_types.specs.IsMachine.{IsMachine}
use Rattle.xf_image.specs.Frames.{Frame}
use Rattle.xf_inexact.specs.Whole.{SpdStands, whole_end}
use Rattle.xf_sadimage.specs.States.{AlikeInStates}
use Rattle.xf_rows.specs.declared.layout.Layout.{Layout}
use Rattle.xf_rows.specs.Layouts.{Fits}
use Rattle.xf_rows.specs.Values.{Beside}
use Rattle.xf_rows.specs.Stands.{Stands}

pub record PlaceLaws : Type 0 where
  -- words of others don't matter
  pub apart : (layout : Layout) (i j : List ℕ) (b : Beside) (m : Machine) → Fits layout (length i)
      → ((q : ℕ) → layout.policies.base ≤ q → q ≤ layout.clock → slice_index j q ≡ slice_index i q)
      → Stands layout i b m → Stands layout j b m
  -- a change of policies alone leaves states, values and time
  pub policies : (layout : Layout) (i j : List ℕ) (b : Beside) (m : Machine) (s : Shown) (es : List (ℕ × Policy)) → Fits layout (length i)
      → Frame layout.policies.base (whole_end layout.policies) i j → AlikeInStates m.shown s → s.time ≡ m.shown.time
      → SpdStands layout.policies j s es → IsMachine (record { shown = s; own = m.own })
      → Stands layout i b m → Stands layout j b (record { shown = s; own = m.own })
