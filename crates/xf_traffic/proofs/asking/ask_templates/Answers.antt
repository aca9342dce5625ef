use Rattle.std.proofs.Common.{◌≡◌, ℕ, List, ap, sym, ◌∙◌, subst}
use Rattle.xf_types.specs.declared.call.Hop.{Hop}
use Rattle.xf_types.specs.declared.call.Reply.TheVariants as reply
use Rattle.xf_types.specs.declared.state.Sa.{Sa}
use Rattle.xf_types.specs.FlowRules.{resolved}
use Rattle.xf_types.specs.Machine.{Shown}
use Rattle.xf_sadimage.specs.States.{StatesStand}
use Rattle.xf_sadfind.specs.declared.resolved.Resolved.TheVariants as found
use Rattle.xf_sadfind.specs.Paths.{IsPath}
use Rattle.xf_traffic.specs.Asked.{IsAnswered}
use Rattle.xf_traffic.specs.Paths.{hops_in}
use Rattle.xf_traffic.proofs.Answered.{path_allows}
use Rattle.xf_traffic.proofs.Resolved.{Leads, path_leads, hops_are, WantsAt, wants_for}
use Rattle.xf_traffic.proofs.asking.ask_templates.Given as given
use Rattle.xf_traffic.proofs.asking.ask_templates.Goals as goal

-- the templates lead through the states in the slots
led : (g : given.Over) (c : goal.After-path_through-path g) (image : List ℕ) (s : Shown) (entries : List (ℕ × Sa)) → g.L.Load.agrees c.path_through-path.new.l image
    → StatesStand c.args.layout.now.states image s entries → Leads entries c.in-Path.slots.items (resolved s c.args.flow.now c.args.policy)
led g c image s entries agrees st =
    path_leads entries (found.Path c.in-Path.slots) (resolved s c.args.flow.now c.args.policy) tt
    (c.in-Path.ensures.state image s entries (c.path_through-path.ensures.among.among image agrees) st)

-- and the hops are theirs
path_is : (g : given.Over) (c : goal.After-path_through-path g) (image : List ℕ) (s : Shown) (entries : List (ℕ × Sa)) (agrees : g.L.Load.agrees c.path_through-path.new.l image)
    (st : StatesStand c.args.layout.now.states image s entries) → c.path_through-path.result ≡ (led g c image s entries agrees st).path
path_is g c image s entries agrees st =
    let a = c.args.layout.now.states in
    let l : Leads entries c.in-Path.slots.items (resolved s c.args.flow.now c.args.policy) = led g c image s entries agrees st in
    c.path_through-path.ensures.answer image agrees ∙ ap (λ (xs : List ℕ). hops_in a image xs) c.as_slice.ensures.value
    ∙ hops_are a image s entries c.in-Path.slots.items l.path st l.goes

pub returns-in-Path-clause-path : goal.returns-in-Path-clause-path
returns-in-Path-clause-path g c = λ image s entries agrees st.
    subst (λ (hops : List Hop). IsPath entries c.in-Path.slots.items hops) (sym (path_is g c image s entries agrees st)) (led g c image s entries agrees st).goes

pub returns-in-Path-clause-answer : goal.returns-in-Path-clause-answer
returns-in-Path-clause-answer g c = λ image s entries agrees st first allow.
    let l : Leads entries c.in-Path.slots.items (resolved s c.args.flow.now c.args.policy) = led g c image s entries agrees st in
    subst (λ (hops : List Hop). IsAnswered s c.args.flow.now (reply.FlowAllow c.args.policy.index hops)) (sym (path_is g c image s entries agrees st))
    (path_allows s c.args.flow.now c.args.policy l.path first allow l.is)

pub returns-in-Wanting-clause-answer : goal.returns-in-Wanting-clause-answer
returns-in-Wanting-clause-answer g c = λ image s entries agrees st first allow.
    let w : WantsAt c.in-Wanting.template c.in-Wanting.src c.in-Wanting.dst (resolved s c.args.flow.now c.args.policy) =
    wants_for entries c.in-Wanting.template c.in-Wanting.src c.in-Wanting.dst (resolved s c.args.flow.now c.args.policy) (c.in-Wanting.ensures.state image s entries agrees st) in
    c.wanting.ensures.answer s c.args.flow.now w.template first allow w.is
