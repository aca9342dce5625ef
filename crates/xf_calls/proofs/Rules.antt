-- Which rules change policies alone, and which change nothing.
use Rattle.std.proofs.Common.{◌≡◌, ◌+◌, ◌*◌, ◌==◌, ◌&&◌, not, Bool, true, false, cond, refl, length, nat_le, Option, None, Some}
use Rattle.std.specs.Prelude.{find}
use Rattle.xf_types.specs.declared.call.Reply.TheVariants.{Invalid, DoneIndex}
use Rattle.xf_types.specs.declared.policy.Policy.{Policy}
use Rattle.xf_types.specs.declared.policy.PolicyKey.{PolicyKey}
use Rattle.xf_types.specs.declared.policy.PolicySpec.{PolicySpec}
use Rattle.xf_types.specs.declared.policy.Thresholds.{Thresholds}
use Rattle.xf_types.specs.declared.state.Sa.{Sa}
use Rattle.xf_types.specs.declared.state.SaId.{SaId}
use Rattle.xf_types.specs.Changes.{Answer, answer, stays, Stays, InPlace}
use Rattle.xf_types.specs.Counters.{next_in}
use Rattle.xf_types.specs.Machine.{Shown}
use Rattle.xf_types.specs.PolicyList.{has_key}
use Rattle.xf_types.specs.PolicyRules as rule
use Rattle.xf_types.specs.Same.{dir_number}
use Rattle.xf_types.specs.StateList.{latest_match}
use Rattle.xf_types.specs.StateRules.{state_get, state_shown}
use Rattle.xf_calls.specs.OnlyPolicies.{OnlyPolicies}

only_if : (s : Shown) (b : Bool) (x y : Answer) → OnlyPolicies s x.change → OnlyPolicies s y.change → OnlyPolicies s (cond b x y).change
only_if s true x y h k = h
only_if s false x y h k = k

-- ---- a policy is added

only_with_index : (s : Shown) (spec : PolicySpec) → OnlyPolicies s (rule.added_with_index s spec).change
only_with_index s spec =
    let k = rule.free_number s spec.dir in
    let index = 8 * k + dir_number spec.dir in
    only_if s (not (spec.index == 0) && not (rule.is_index_taken s spec.index))
    (answer (DoneIndex spec.index) (InPlace (rule.with_policy s spec spec.index s.policies)))
    (answer (DoneIndex index) (InPlace (rule.with_policy (record s { next_index = next_in rule.last_index k }) spec index s.policies)))
    (record { states = refl; next_seq = refl; next_sid = refl; room = refl }, refl)
    (record { states = refl; next_seq = refl; next_sid = refl; room = refl }, refl)

only_if_room : (s : Shown) (spec : PolicySpec) → OnlyPolicies s (rule.policy_added_if_room s spec).change
only_if_room s spec = only_if s (nat_le s.max_policies (length s.policies)) (rule.full_of_policies s) (rule.added_with_index s spec) tt (only_with_index s spec)

only_unless_found : (s : Shown) (spec : PolicySpec) (o : Option Policy) → OnlyPolicies s (rule.policy_added_unless_found s spec o).change
only_unless_found s spec (Some old) = tt
only_unless_found s spec None = only_if_room s spec

pub only_add : (s : Shown) (spec : PolicySpec) → OnlyPolicies s (rule.policy_add s spec).change
only_add s spec =
    only_if s (rule.is_bad_index spec) (stays Invalid) (rule.policy_added_unless_found s spec (rule.policy_same_as s spec)) tt
    (only_unless_found s spec (rule.policy_same_as s spec))

only_replaced : (s : Shown) (spec : PolicySpec) (o : Option Policy) → OnlyPolicies s (rule.policy_replaced_or_added s spec o).change
only_replaced s spec (Some old) = (record { states = refl; next_seq = refl; next_sid = refl; room = refl }, refl)
only_replaced s spec None = only_if_room s spec

pub only_update : (s : Shown) (spec : PolicySpec) → OnlyPolicies s (rule.policy_update s spec).change
only_update s spec =
    only_if s (rule.is_bad_index spec) (stays Invalid) (rule.policy_replaced_or_added s spec (rule.policy_same_as s spec)) tt
    (only_replaced s spec (rule.policy_same_as s spec))

-- ---- policies are removed

only_deleted : (s : Shown) (key : PolicyKey) (o : Option Policy) → OnlyPolicies s (rule.policy_deleted s key o).change
only_deleted s key (Some old) = (record { states = refl; next_seq = refl; next_sid = refl; room = refl }, refl)
only_deleted s key None = tt

pub only_delete : (s : Shown) (key : PolicyKey) → OnlyPolicies s (rule.policy_delete s key).change
only_delete s key =
    only_if s (rule.is_bad_key key) (stays Invalid) (rule.policy_deleted s key (find (has_key key) s.policies)) tt (only_deleted s key (find (has_key key) s.policies))

pub only_removed : (s : Shown) (test : Policy → Bool) → OnlyPolicies s (rule.policies_removed s test).change
only_removed s test = (record { states = refl; next_seq = refl; next_sid = refl; room = refl }, refl)

-- ---- other thresholds

pub only_set : (s : Shown) (set : Thresholds) → OnlyPolicies s (rule.policy_set s set).change
only_set s set = (record { states = refl; next_seq = refl; next_sid = refl; room = refl }, refl)

-- ---- a record is shown

shown_stays : (o : Option Policy) → (rule.policy_shown o).change ≡ Stays
shown_stays (Some p) = refl
shown_stays None = refl

stays_if : (b : Bool) (x y : Answer) → x.change ≡ Stays → y.change ≡ Stays → (cond b x y).change ≡ Stays
stays_if true x y h k = h
stays_if false x y h k = k

pub get_stays : (s : Shown) (key : PolicyKey) → (rule.policy_get s key).change ≡ Stays
get_stays s key =
    stays_if (rule.is_bad_key key) (stays Invalid) (rule.policy_shown (find (has_key key) s.policies)) refl (shown_stays (find (has_key key) s.policies))

state_shown_stays : (o : Option Sa) → (state_shown o).change ≡ Stays
state_shown_stays (Some x) = refl
state_shown_stays None = refl

pub state_get_stays : (s : Shown) (id : SaId) → (state_get s id).change ≡ Stays
state_get_stays s id = state_shown_stays (latest_match s.states id)
