use Rattle.std.proofs.Common.{◌≡◌, ◌≤◌, length, drop}
use Rattle.std.specs.Prelude.{None}
use Rattle.xf_types.specs.StateList.{has_id, last_of}
use Rattle.xf_states.proofs.table.StateTable.place_of.Given as goal

-- none from the place on has the id
abbrev pub invariant-search : goal.invariant-search
invariant-search l = record {
  within : l.place ≤ length l.self.states;
  none : last_of (has_id l.id) (drop l.place l.self.states) ≡ None;
}

abbrev pub decreases-search : goal.decreases-search
decreases-search l = l.place
