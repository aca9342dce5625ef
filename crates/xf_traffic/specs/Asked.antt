-- What a flow comes to before anything is changed.
use Rattle.std.specs.Prelude.{◌≡◌, ℕ, List, [], Some}
use Rattle.xf_types.specs.declared.call.Hop.{Hop}
use Rattle.xf_types.specs.declared.call.Reply.{Reply}
use Rattle.xf_types.specs.declared.call.Reply.TheVariants as reply
use Rattle.xf_types.specs.declared.network.Flow.{Flow}
use Rattle.xf_types.specs.declared.policy.Action.TheVariants.{Allow}
use Rattle.xf_types.specs.declared.policy.Policy.{Policy}
use Rattle.xf_types.specs.Changes.{stays}
use Rattle.xf_types.specs.FlowRules.{WantAnswer, by_policy, resolved}
use Rattle.xf_types.specs.Machine.{Shown}
use Rattle.xf_types.specs.PolicyList.{first_policy}
use Rattle.xf_types.specs.Resolution as templates
use Rattle.xf_traffic.specs.declared.asked.Wanted.{Wanted}
use Rattle.xf_traffic.specs.declared.asked.Asked.{Asked}
use Rattle.xf_traffic.specs.declared.asked.Asked.TheVariants.{Answered, Wants}

-- the path that a reply tells
abbrev pub path_in : Reply → List Hop
path_in (reply.FlowAllow index path) = path
path_in _ = []

-- the reply where a template that wants a state is named
abbrev pub tried_reply : Asked → Reply
tried_reply (Answered r slots) = r
tried_reply (Wants w) = reply.Wanting w.policy.index w.place

-- the slots of the path's states
abbrev pub slots_told : Asked → List ℕ
slots_told (Answered r slots) = slots.items
slots_told (Wants w) = []

-- The flow has this answer, whatever a template that wants a state is answered with.
pub record IsAnswered (s : Shown) (flow : Flow) (r : Reply) : Type 0 where
  pub answer : (wants : Policy → WantAnswer) → by_policy s flow wants (first_policy s.policies flow) ≡ stays r

-- The flow's policy allows it, and this template is its first required one without a state.
pub record IsWanted (s : Shown) (flow : Flow) (w : Wanted) : Type 0 where
  pub first : first_policy s.policies flow ≡ Some w.policy
  pub allows : w.policy.spec.action ≡ Allow
  pub wants : resolved s flow w.policy ≡ templates.Wants w.template w.place w.src w.dst

-- the flow comes to this
abbrev pub IsAsked : Shown → Flow → Asked → Type 0
IsAsked s flow (Answered r slots) = IsAnswered s flow r
IsAsked s flow (Wants w) = IsWanted s flow w
