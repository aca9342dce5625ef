-- What the walks find is what the state list says.
use Rattle.std.specs.Prelude.{◌≡◌, ℕ, Bool, List, filter}
use Rattle.xf_types.specs.declared.state.Sa.{Sa}
use Rattle.xf_types.specs.StateList.{last_of}
use Rattle.xf_types.specs.Candidates.{best_state}
use Rattle.xf_index.specs.Indexes.{records_in}
use Rattle.xf_index.specs.Finds.{record_found}
use Rattle.xf_sadidx.specs.Founds.{latest_in}
use Rattle.xf_sadidx.specs.Bests.{best_in}

pub record ListLaws : Type 0 where
  -- the last entry that passes has the last state of the list that does
  pub latest : (test : Sa → Bool) (entries : List (ℕ × Sa)) → record_found (latest_in test entries) ≡ last_of test (records_in entries)
  -- the best entry has the best of the states that pass
  pub best : (test : Sa → Bool) (entries : List (ℕ × Sa)) → record_found (best_in test entries) ≡ best_state (filter test (records_in entries))
