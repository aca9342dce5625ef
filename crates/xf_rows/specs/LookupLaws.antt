-- What a lookup among entries found is the machine's state, with its own part and its value.
use Rattle.std.specs.Prelude.{◌≡◌, ℕ, Bool, List, None, Some, find}
use Rattle.xf_types.specs.declared.state.Sa.{Sa}
use Rattle.xf_types.specs.Machine.{Machine}
use Rattle.xf_types.specs.StateList.{last_of}
use Rattle.xf_index.specs.Finds.{found_in, slot_found}
use Rattle.xf_sadidx.specs.Founds.{latest_in}
use Rattle.xf_rows.specs.declared.layout.Layout.{Layout}
use Rattle.xf_rows.specs.Rows.{entries_in}
use Rattle.xf_rows.specs.Values.{Beside}
use Rattle.xf_rows.specs.Stands.{Stands}
use Rattle.xf_rows.specs.Finds.{FoundAt}

pub record LookupLaws : Type 0 where
  -- the first that passes, as by a state id
  pub first : (layout : Layout) (i : List ℕ) (b : Beside) (m : Machine) (test : Sa → Bool) (slot : ℕ) (r : Stands layout i b m)
      → Some slot ≡ slot_found (found_in test (entries_in r.rows)) → FoundAt b m r.rows test slot (find test m.shown.states)
  -- the last that passes, as by an id
  pub latest : (layout : Layout) (i : List ℕ) (b : Beside) (m : Machine) (test : Sa → Bool) (slot : ℕ) (r : Stands layout i b m)
      → Some slot ≡ slot_found (latest_in test (entries_in r.rows)) → FoundAt b m r.rows test slot (last_of test m.shown.states)
  -- and that none does
  pub none_first : (layout : Layout) (i : List ℕ) (b : Beside) (m : Machine) (test : Sa → Bool) (r : Stands layout i b m)
      → slot_found (found_in test (entries_in r.rows)) ≡ None → find test m.shown.states ≡ None
  pub none_latest : (layout : Layout) (i : List ℕ) (b : Beside) (m : Machine) (test : Sa → Bool) (r : Stands layout i b m)
      → slot_found (latest_in test (entries_in r.rows)) ≡ None → last_of test m.shown.states ≡ None
