-- A flow that is only tried moves nothing.
use Rattle.std.proofs.Common.{◌≡◌, ℕ, false, List, refl, sym, subst, inl, inr, Option, None, Some}
use Rattle.xf_types.specs.declared.call.Call.TheVariants as call
use Rattle.xf_types.specs.declared.call.Reply.{Reply}
use Rattle.xf_types.specs.declared.call.Reply.TheVariants as reply
use Rattle.xf_types.specs.declared.network.Flow.{Flow}
use Rattle.xf_types.specs.declared.policy.Action.{Action}
use Rattle.xf_types.specs.declared.policy.Action.TheVariants.{Allow, Block}
use Rattle.xf_types.specs.declared.policy.Policy.{Policy}
use Rattle.xf_types.specs.Changes.{stays}
use Rattle.xf_types.specs.FlowRules.{WantAnswer, flow_answer, by_action, by_policy}
use Rattle.xf_types.specs.Machine.{Machine, Shown}
use Rattle.xf_types.specs.PolicyList.{first_policy}
use Rattle.xf_types.specs.Resolution.{Resolution, Through, Waits, Wants}
use Rattle.xf_types.specs.Steps.{step}
use Rattle.xf_meaning.specs.Good.{Good}
use Rattle.xf_meaning.specs.Tells.{lists}
use Rattle.xf_values.specs.declared.state_value.StateValue.{StateValue}
use Rattle.xf_live.specs.Passes.{LiveView, PassView, IsHere}
use Rattle.xf_live.specs.Calls.{Entered}
use Rattle.xf_desk.specs.Lending.{IsLent}
use Rattle.xf_desk.specs.Values.{beside_of}
use Rattle.xf_serve.specs.Served.{AreTold, IsTableOf, Rests, RepliesBy}
use Rattle.xf_serve.proofs.Calm.{IsCalm}
use Rattle.xf_serve.proofs.Runs.{told_on_entry, policies_of_pass, states_of_pass}
use Rattle.xf_serve.proofs.Answered.{IsAnswered, stored_nothing}

-- a template that wants a state is named
abbrev named : Policy → WantAnswer
named p t place src dst = stays (reply.Wanting p.index place)

resolved_calm : (p : Policy) (r : Resolution) → IsCalm (flow_answer p (named p) r).reply
resolved_calm p (Through path) = record { still = refl; settled = refl }
resolved_calm p (Waits seq) = record { still = refl; settled = refl }
resolved_calm p (Wants t place src dst) = record { still = refl; settled = refl }

action_calm : (s : Shown) (flow : Flow) (p : Policy) (a : Action) → IsCalm (by_action s flow p (named p) a).reply
action_calm s flow p Block = record { still = refl; settled = refl }
action_calm s flow p Allow = resolved_calm p _

policy_calm : (s : Shown) (flow : Flow) (o : Option Policy) → IsCalm (by_policy s flow named o).reply
policy_calm s flow None = record { still = refl; settled = refl }
policy_calm s flow (Some p) = action_calm s flow p p.spec.action

step_calm : (m : Machine) (flow : Flow) → IsCalm (step m (call.TryFlow flow)).reply
step_calm m flow = policy_calm m.shown flow (first_policy m.shown.policies flow)

try_calm : (p s : ℕ) (image : List ℕ) (flow : Flow) (r : Reply) → AreTold p s image → RepliesBy p s image (call.TryFlow flow) r → IsCalm r
try_calm p s image flow r told (inl e) = subst IsCalm (sym e) (record { still = refl; settled = refl })
try_calm p s image flow r told (inr tells) = subst IsCalm (sym (tells told.told told.machine told.is told.good told.shown)) (step_calm told.machine flow)

-- what the words tell, by the numbers of slots that a caller gives
pub told_here : (p s : ℕ) (l : LiveView) (a b : PassView StateValue) → IsTableOf p s l → IsHere l a → Entered Good lists a b → AreTold p s b.view.image.words
told_here p s l a b base here e =
    subst (λ (n : ℕ). AreTold n s b.view.image.words) (policies_of_pass p s l a base here)
    (subst (λ (n : ℕ). AreTold a.view.life.start.policies n b.view.image.words) (states_of_pass p s l a base here) (told_on_entry a b e))

pub tried : (p s : ℕ) (l : LiveView) (a b q : PassView StateValue) (flow : Flow) (r : Reply) → IsTableOf p s l → IsHere l a → Rests a → Entered Good lists a b
    → IsLent l.start.policies b q false → beside_of l.start q.values ≡ beside_of l.start b.values → RepliesBy p s b.view.image.words (call.TryFlow flow) r
    → IsAnswered a q (call.TryFlow flow) r
tried p s l a b q flow r base here rest e lent beside says =
    stored_nothing p s l a b q (call.TryFlow flow) r base here rest e lent beside
    (try_calm p s b.view.image.words flow r (told_here p s l a b base here e) says) says
