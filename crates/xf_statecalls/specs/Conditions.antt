-- That the conditions of the calls hold where words and values stand for a machine whose ids are small.
use Rattle.std.specs.Prelude.{ℕ, ◌<◌, ◌^◌, List}
use Rattle.xf_types.specs.Machine.{Machine}
use Rattle.xf_sadlist.specs.Listed.{next_sid_in}
use Rattle.xf_rows.specs.declared.layout.Layout.{Layout}
use Rattle.xf_rows.specs.Values.{Beside}
use Rattle.xf_rows.specs.Stands.{Stands}
use Rattle.xf_statecalls.specs.Ready.{Stood}

pub record ConditionLaws : Type 0 where
  -- they stand for some machine
  pub stood : (layout : Layout) (i : List ℕ) (b : Beside) (m : Machine) → Stands layout i b m → Stood layout i b
  -- the word of the next id tells the machine's
  pub young : (layout : Layout) (i : List ℕ) (b : Beside) (m : Machine) → Stands layout i b m → m.shown.next_sid < 2 ^ 63 → next_sid_in layout.states i < 2 ^ 63
  pub ids : (layout : Layout) (i : List ℕ) (b : Beside) (m : Machine) → Stands layout i b m → next_sid_in layout.states i < 2 ^ 63 → m.shown.next_sid < 2 ^ 63
