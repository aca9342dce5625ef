-- What adding a state asks for.
use Rattle.std.proofs.Common.{◌≡◌, List, ap, ◌∙◌}
use Rattle.std.specs.Prelude.{Option}
use Rattle.xf_types.specs.declared.state.Sa.{Sa}
use Rattle.xf_types.specs.declared.state.SaId.{SaId}
use Rattle.xf_types.specs.declared.state.SaSpec.{SaSpec}
use Rattle.xf_types.specs.Machine.{Machine, Outcome}
use Rattle.xf_types.specs.Changes.{applied}
use Rattle.xf_types.specs.PolicyList.{without}
use Rattle.xf_types.specs.StateList.{latest_match, larval_replaced, is_that, id_of}
use Rattle.xf_types.specs.StateRules.{state_add, state_added_unless_found}

-- what was found without the larval state that leaves decides
pub adds : (m : Machine) (states : List Sa) (spec : SaSpec) (replaced found : Option Sa) (id : SaId) → states ≡ m.shown.states
    → replaced ≡ larval_replaced states spec → id ≡ id_of spec → found ≡ latest_match (without (is_that replaced) states) id
    → applied m (state_added_unless_found m.shown (is_that replaced) spec found) ≡ applied m (state_add m.shown spec)
adds m states spec replaced found id listed is_replaced is_id is_found =
    let rule : Option Sa → Option Sa → Outcome = λ r o. applied m (state_added_unless_found m.shown (is_that r) spec o) in
    ap (rule replaced) is_found
    ∙ ap (λ (i : SaId). rule replaced (latest_match (without (is_that replaced) states) i)) is_id
    ∙ ap (λ (ss : List Sa). rule replaced (latest_match (without (is_that replaced) ss) (id_of spec))) listed
    ∙ ap (λ (r : Option Sa). rule r (latest_match (without (is_that r) m.shown.states) (id_of spec)))
    (is_replaced ∙ ap (λ (ss : List Sa). larval_replaced ss spec) listed)
