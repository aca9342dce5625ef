use Rattle.std.proofs.Common.{◌≡◌, List, ℕ, refl, sym, ap, ◌∙◌, subst}
use Rattle.xf_types.specs.Machine.{Shown}
use Rattle.xf_inexact.specs.Whole.{SpdStands}
use Rattle.xf_sadimage.specs.States.{StatesStand}
use Rattle.xf_rows.specs.declared.layout.Layout.{Layout}
use Rattle.xf_meaning.specs.Places.{layout_of, policies_of, states_of}
use Rattle.xf_values.specs.declared.state_value.StateValue.{StateValue}
use Rattle.xf_live.specs.Passes.{PassView}
use Rattle.xf_serve.proofs.Calm.{replies_by}
use Rattle.xf_serve.proofs.reading.ask.Goals as goal

pub returns-clause-reply : goal.returns-clause-reply
returns-clause-reply g c =
    let now : List ℕ = c.reply-reply.new.words.pass.view.image.words in
    let image : List ℕ = c.args.pass.view.image.words in
    let places : c.layout_of-layout.result ≡ layout_of c.args.policies c.args.states = c.layout_of-layout.ensures.places in
    let same : now ≡ image =
    c.reply-reply.ensures.among.among now refl ∙ ap (λ (p : PassView StateValue). p.view.image.words) c.lend-desk.ensures.pass in
    replies_by c.args.policies c.args.states image c.args.call.now c.reply-reply.result
    (λ t m is good shown some.
    c.reply-reply.ensures.reply now m good.policies good.states refl
    (subst (λ (a : Layout). SpdStands a.policies now m.shown good.policies) (sym places)
    (subst (λ (i : List ℕ). SpdStands (policies_of c.args.policies c.args.states) i m.shown good.policies) (sym same)
    (subst (λ (s : Shown). SpdStands (policies_of c.args.policies c.args.states) image s good.policies) shown good.on_policies)))
    (subst (λ (a : Layout). StatesStand a.states now m.shown good.states) (sym places)
    (subst (λ (i : List ℕ). StatesStand (states_of c.args.policies c.args.states) i m.shown good.states) (sym same)
    (subst (λ (s : Shown). StatesStand (states_of c.args.policies c.args.states) image s good.states) shown good.on_states)))
    some)
