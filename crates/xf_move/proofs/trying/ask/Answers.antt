use Rattle.std.proofs.Common.{◌≡◌, List, ℕ, refl, sym, ap, ◌∙◌, subst, inr}
use Rattle.xf_types.specs.Changes.{Answer}
use Rattle.xf_types.specs.Machine.{Shown}
use Rattle.xf_inexact.specs.Whole.{SpdStands}
use Rattle.xf_sadimage.specs.States.{StatesStand}
use Rattle.xf_rows.specs.declared.layout.Layout.{Layout}
use Rattle.xf_meaning.specs.Places.{layout_of, policies_of, states_of}
use Rattle.xf_values.specs.declared.state_value.StateValue.{StateValue}
use Rattle.xf_live.specs.Passes.{PassView}
use Rattle.xf_move.proofs.trying.ask.Goals as goal

pub returns-clause-reply : goal.returns-clause-reply
returns-clause-reply g c =
    let now : List ℕ = c.try_flow-reply.new.l.pass.view.image.words in
    let image : List ℕ = c.args.pass.view.image.words in
    let places : c.layout_of-layout.result ≡ layout_of c.args.policies c.args.states = c.layout_of-layout.ensures.places in
    let same : now ≡ image =
    c.try_flow-reply.ensures.among.among now refl ∙ ap (λ (p : PassView StateValue). p.view.image.words) c.lend-desk.ensures.pass in
    inr (λ t m is good shown.
    sym (ap (λ (a : Answer). a.reply)
    (c.try_flow-reply.ensures.answer now m.shown good.policies good.states refl is.shown.policies.ordered
    (subst (λ (a : Layout). SpdStands a.policies now m.shown good.policies) (sym places)
    (subst (λ (i : List ℕ). SpdStands (policies_of c.args.policies c.args.states) i m.shown good.policies) (sym same)
    (subst (λ (s : Shown). SpdStands (policies_of c.args.policies c.args.states) image s good.policies) shown good.on_policies)))
    (subst (λ (a : Layout). StatesStand a.states now m.shown good.states) (sym places)
    (subst (λ (i : List ℕ). StatesStand (states_of c.args.policies c.args.states) i m.shown good.states) (sym same)
    (subst (λ (s : Shown). StatesStand (states_of c.args.policies c.args.states) image s good.states) shown good.on_states))))))
