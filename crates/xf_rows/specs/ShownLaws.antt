-- One machine alone is told by words and values, and the empty one by words that are 0.
use Rattle.std.specs.Prelude.{◌≡◌, ℕ, Bool, true, List, replicate}
use Rattle.xf_types.specs.Machine.{Machine}
use Rattle.xf_types.specs.Steps as steps
use Rattle.xf_cells.specs.Words.{zeros}
use Rattle.xf_local.specs.View.{Dead}
use Rattle.xf_rows.specs.declared.layout.Layout.{Layout}
use Rattle.xf_rows.specs.Layouts.{Fits}
use Rattle.xf_rows.specs.Values.{Beside}
use Rattle.xf_rows.specs.Stands.{Stands}
use Rattle.xf_rows.specs.Readings.{shown_in, machine_in}

pub record ShownLaws : Type 0 where
  -- the words tell what is shown
  pub shown : (layout : Layout) (image : List ℕ) (b : Beside) (m : Machine) → Stands layout image b m → m.shown ≡ shown_in layout image
  -- and with the values of all slots, where their turns are held, the machine
  pub machine : (layout : Layout) (image : List ℕ) (b : Beside) (m : Machine) → Stands layout image b m → ((slot : ℕ) → b.held slot ≡ true)
      → m ≡ machine_in layout image b.values
  -- zeros and dead values
  pub empty : (layout : Layout) (size : ℕ) (held : ℕ → Bool) → Fits layout size
      → Stands layout (zeros size) (record { held = held; values = replicate layout.states.slots Dead }) (steps.empty layout.policies.slots layout.states.slots)
