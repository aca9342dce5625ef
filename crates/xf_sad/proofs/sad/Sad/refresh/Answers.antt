use Rattle.std.proofs.Common.{◌≡◌, ℕ, List, ◌∷◌, ◌++◌, ap, sym, ◌∙◌, subst}
use Rattle.xf_types.specs.declared.state.Sa.{Sa}
use Rattle.xf_types.specs.StateRules.{refreshed_record}
use Rattle.xf_index.specs.Indexes.{records_in}
use Rattle.xf_sadidx.specs.Keys.{key_of}
use Rattle.xf_sadimage.specs.States.{StatesStand}
use Rattle.xf_sadlist.specs.Listed.{with_states}
use Rattle.xf_sad.proofs.Found.{found_is, found_some, refreshed_keys}
use Rattle.xf_sad.proofs.sad.Sad.refresh.Goals as goal

pub returns-in-Some-clause-stands : goal.returns-in-Some-clause-stands
returns-in-Some-clause-stands g c = λ s front back r st.
    let a = c.args.self.now.area in
    let e : r ≡ c.in-Some.s = found_is a (g.C.Cells.words c.args.c.now) s c.args.slot front back r c.in-Some.s c.state_here.result c.state_here.ensures.answer c.in-Some.is st in
    let f : c.refreshed-fresh.result ≡ refreshed_record c.args.spec.now r = c.refreshed-fresh.ensures ∙ ap (refreshed_record c.args.spec.now) (sym e) in
    subst (λ (x : Sa). StatesStand a (g.C.Cells.words c.rewrite.new.c) (with_states s (records_in (front ++ ((c.args.slot, x) ∷ back)))) (front ++ ((c.args.slot, x) ∷ back))) f
    (c.rewrite.ensures.stands s front back r (λ kind. ap (key_of kind) f ∙ refreshed_keys c.args.spec.now r kind)
    (subst (λ (i : List ℕ). StatesStand a i s (front ++ ((c.args.slot, r) ∷ back))) (sym c.state_here.ensures.words) st))

pub returns-in_default-clause-begun : goal.returns-in_default-clause-begun
returns-in_default-clause-begun g c = λ s front back r st.
    absurd (found_some c.args.self.now.area (g.C.Cells.words c.args.c.now) s c.args.slot front back r c.state_here.result c.state_here.ensures.answer c.in_default.is st)

pub returns-in_default-clause-stands : goal.returns-in_default-clause-stands
returns-in_default-clause-stands g c = λ s front back r st.
    absurd (found_some c.args.self.now.area (g.C.Cells.words c.args.c.now) s c.args.slot front back r c.state_here.result c.state_here.ensures.answer c.in_default.is st)
