use Rattle.std.proofs.Common.{◌≡◌, ℕ, List, ◌∷◌, ◌++◌, sym, subst}
use Rattle.xf_types.specs.declared.state.Sa.{Sa}
use Rattle.xf_sadimage.specs.States.{StatesStand}
use Rattle.xf_sad.proofs.Found.{found_is, found_some}
use Rattle.xf_sad.proofs.sad.Sad.unlist.Goals as goal

pub returns-in-Some-clause-stands : goal.returns-in-Some-clause-stands
returns-in-Some-clause-stands g c = λ s front back r st.
    let a = c.args.self.now.area in
    let e : r ≡ c.in-Some.s = found_is a (g.C.Cells.words c.args.c.now) s c.args.slot front back r c.in-Some.s c.state_here.result c.state_here.ensures.answer c.in-Some.is st in
    c.leave.ensures.stands s front back
    (subst (λ (x : Sa). StatesStand a (g.C.Cells.words c.state_here.new.c) s (front ++ ((c.args.slot, x) ∷ back))) e
    (subst (λ (i : List ℕ). StatesStand a i s (front ++ ((c.args.slot, r) ∷ back))) (sym c.state_here.ensures.words) st))

pub returns-in_default-clause-stands : goal.returns-in_default-clause-stands
returns-in_default-clause-stands g c = λ s front back r st.
    absurd (found_some c.args.self.now.area (g.C.Cells.words c.args.c.now) s c.args.slot front back r c.state_here.result c.state_here.ensures.answer c.in_default.is st)
