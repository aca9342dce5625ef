use Rattle.std.proofs.Common.{◌≡◌, cond, Bool, true, false, refl, ap, ◌∙◌, subst}
use Rattle.xf_types.specs.Moves.{is_moving}
use Rattle.xf_values.specs.declared.state_value.StateValue.{StateValue}
use Rattle.xf_live.specs.Passes.{LiveView, PassView}
use Rattle.xf_desk.specs.Lending.{IsLent}
use Rattle.xf_serve.proofs.changing.add_lent.Goals as goal

itself : (b : Bool) → cond b true false ≡ b
itself true = refl
itself false = refl

pub returns-clause-lent : goal.returns-clause-lent
returns-clause-lent g c =
    let writing : c.add-reply.new.words.writing ≡ is_moving c.add-reply.result =
    c.add-reply.ensures.begun ∙ ap (λ (b : Bool). cond (is_moving c.add-reply.result) true b) c.lend-desk.ensures.shut ∙ itself (is_moving c.add-reply.result) in
    subst (λ (l : LiveView). IsLent l.start.policies c.args.pass c.end.result (is_moving c.add-reply.result)) c.requires.said.0
    (subst (λ (q : PassView StateValue). IsLent g.B.From.live.start.policies q c.end.result (is_moving c.add-reply.result)) c.requires.said.1
    (subst (λ (b : Bool). IsLent g.B.From.live.start.policies g.B.From.pass c.end.result b) writing c.end.ensures.lent))
