-- What stands in the way of a new state.
use Rattle.std.specs.Prelude.{ℕ, Bool, not, ◌&&◌, ◌==◌, if◌then◌else◌, List, Option, None, Some}
use Rattle.xf_types.specs.declared.state.Sa.{Sa}
use Rattle.xf_types.specs.declared.state.SaId.{SaId}
use Rattle.xf_types.specs.declared.state.SaSpec.{SaSpec}
use Rattle.xf_types.specs.PolicyList.{without}
use Rattle.xf_types.specs.StateList.{has_id, has_sid, id_of, is_larval_of, is_that, larval_replaced, latest_match}
use Rattle.xf_sadidx.specs.Founds.{latest_in}

-- the entry whose place a new state takes: the last larval one of its sequence number, where that isn't 0
abbrev pub larval_in : SaSpec → List (ℕ × Sa) → Option (ℕ × Sa)
larval_in spec entries = if spec.seq == 0 then None else latest_in (is_larval_of spec) entries

-- the id names the state, which isn't the old one, where there is one
abbrev pub names_beside : SaId → Option Sa → Sa → Bool
names_beside id None s = has_id id s
names_beside id (Some old) s = has_id id s && not (has_sid old.sid s)

-- the state that a new one can't stand beside: the latest match, the larval one that leaves left out
abbrev pub in_the_way : List Sa → SaSpec → Option Sa
in_the_way states spec = latest_match (without (is_that (larval_replaced states spec)) states) (id_of spec)

-- the state id, where there is a state
abbrev pub sid_found : Option Sa → Option ℕ
sid_found None = None
sid_found (Some s) = Some s.sid
