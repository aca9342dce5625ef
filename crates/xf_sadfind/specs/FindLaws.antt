-- What is found is what the rules speak of.
use Rattle.std.specs.Prelude.{◌≡◌, ℕ, List, Some, slice_get}
use Rattle.xf_types.specs.declared.network.Addr.{Addr}
use Rattle.xf_types.specs.declared.network.Flow.{Flow}
use Rattle.xf_types.specs.declared.policy.Template.{Template}
use Rattle.xf_types.specs.declared.state.Sa.{Sa}
use Rattle.xf_types.specs.declared.state.SaSpec.{SaSpec}
use Rattle.xf_types.specs.Machine.{Shown}
use Rattle.xf_types.specs.Resolution.{Wants, resolution}
use Rattle.xf_types.specs.StateList.{is_that, larval_replaced}
use Rattle.xf_types.specs.StateRules.{state_add, state_added_unless_found}
use Rattle.xf_index.specs.Finds.{record_found}
use Rattle.xf_index.specs.Indexes.{records_in}
use Rattle.xf_sadfind.specs.Replaced.{larval_in, in_the_way}

pub record FindLaws : Type 0 where
  -- the entry whose place a new state takes has the larval state that the new one replaces
  pub replaced : (spec : SaSpec) (entries : List (ℕ × Sa)) → record_found (larval_in spec entries) ≡ larval_replaced (records_in entries) spec
  -- the rule of adding asks for the state in the way
  pub adds : (s : Shown) (spec : SaSpec)
      → state_add s spec ≡ state_added_unless_found s (is_that (larval_replaced s.states spec)) spec (in_the_way s.states spec)
  -- the template that wants a state is the one at its place
  pub wanted : (states : List Sa) (flow : Flow) (templates : List Template) (from to : Addr) (t : Template) (place : ℕ) (src dst : Addr)
      → resolution states flow templates 0 from to ≡ Wants t place src dst → slice_get templates place ≡ Some t
