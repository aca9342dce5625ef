use Rattle.std.proofs.Common.{◌≡◌, List, ◌++◌, ap, ◌∙◌}
use Rattle.std.specs.Prelude.{filter_map}
use Rattle.std.proofs.lemmas.Result.{on_ok_weaker}
use Rattle.xf_types.specs.declared.call.Event.{Event}
use Rattle.xf_types.specs.TickRules.{policy_event}
use Rattle.xf_policies.specs.declared.ticking.Report.{Report}
use Rattle.xf_policies.proofs.Gathered.{reported}
use Rattle.xf_policies.proofs.ticking.policy_events.Goals as goal

pub returns-clause-answer : goal.returns-clause-answer
returns-clause-answer g c = λ image s es agrees st.
    let e : c.replace-own.result.items ≡ c.args.events.now.items = cc in
    on_ok_weaker c.walk-told.result
    (λ seen. reported _ (λ (v : Report). v.time) (λ (v : Report). v.events.items) (λ v u p h. h) _ c.walk-told.new.visitor s.policies seen
    ∙ ap (λ (l : List Event). l ++ filter_map (policy_event c.args.now) s.policies) e)
    (c.walk-told.ensures.visited image s es agrees st)
