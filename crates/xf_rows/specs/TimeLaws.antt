-- Words and values at a later time.
use Rattle.std.specs.Prelude.{◌≡◌, ℕ, true, List, All, ◌∷◌, ◌++◌, map, filter_map, slice_index}
use Rattle.xf_types.specs.declared.policy.Policy.{Policy}
use Rattle.xf_types.specs.Machine.{Machine}
use Rattle.xf_types.specs.PolicyList.{without}
use Rattle.xf_types.specs.TickRules.{at_time, with_own, policy_ends, policy_later, state_event}
use Rattle.xf_index.specs.Indexes.{slots_in, records_in}
use Rattle.xf_local.specs.View.{event_of}
use Rattle.xf_inexact.specs.Whole.{SpdStands}
use Rattle.xf_sadimage.specs.States.{StatesStand}
use Rattle.xf_rows.specs.declared.layout.Layout.{Layout}
use Rattle.xf_rows.specs.Rows.{Row, entries_in}
use Rattle.xf_rows.specs.Values.{Beside, at}
use Rattle.xf_rows.specs.Stands.{Stands}
use Rattle.xf_rows.specs.Ticks.{rows_later, AreAged, entry_later}

pub record TimeLaws : Type 0 where
  -- words of the later lists, and values that are aged where their turns are held, stand for the machine at that time
  pub later : (layout : Layout) (i j : List ℕ) (b c : Beside) (m : Machine) (now : ℕ) (es : List (ℕ × Policy)) (r : Stands layout i b m)
      → SpdStands layout.policies j (record m.shown { policies = map (policy_later now) (without (policy_ends now) m.shown.policies) }) es
      → StatesStand layout.states j (record m.shown { states = records_in (entries_in (rows_later now r.rows)) }) (entries_in (rows_later now r.rows))
      → slice_index j layout.clock ≡ now → AreAged now b c
      → Stands layout j c (at_time m now)
  -- the states with their own parts, by which the events are told
  pub pairs : (layout : Layout) (i : List ℕ) (b : Beside) (m : Machine) (r : Stands layout i b m) → with_own m ≡ records_in r.rows
  -- the events of the states, as the listed slots' values tell them one after another, where the turns of these are held
  pub events : (layout : Layout) (i : List ℕ) (b : Beside) (m : Machine) (now : ℕ) (r : Stands layout i b m)
      → All (λ slot. b.held slot ≡ true) (slots_in (entries_in r.rows))
      → filter_map (λ slot. event_of now (at b slot)) (slots_in (entries_in r.rows)) ≡ filter_map (state_event now) (with_own m)
  -- and by each event what is left of the entries
  pub walk : (now : ℕ) (x : Row) (rows : List Row)
      → entries_in (rows_later now (x ∷ rows)) ≡ entry_later (state_event now x.1) (x.0, x.1.0) ++ entries_in (rows_later now rows)
