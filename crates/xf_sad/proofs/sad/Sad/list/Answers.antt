use Rattle.std.proofs.Common.{◌≡◌, ℕ, List, [], ◌∷◌, ◌++◌, sym, ◌∙◌, subst}
use Rattle.xf_types.specs.declared.state.Sa.{Sa}
use Rattle.xf_image.specs.Frames.{Frame}
use Rattle.xf_sadidx.specs.Layout.{end_of}
use Rattle.xf_sadimage.specs.States.{StatesStand}
use Rattle.xf_sadlist.specs.Listed.{with_state}
use Rattle.xf_sadlist.proofs.Tallies.{next_sid_is}
use Rattle.xf_sad.proofs.Placings.{new_is}
use Rattle.xf_sad.proofs.sad.Sad.list.Goals as goal

pub returns-clause-frame : goal.returns-clause-frame
returns-clause-frame g c =
    let a = c.args.self.now.area in
    subst (λ (i : List ℕ). Frame a.base (end_of a) i (g.C.Cells.words c.come.new.c)) c.sid_here-sid.ensures.words c.come.ensures.frame

pub returns-clause-stands : goal.returns-clause-stands
returns-clause-stands g c = λ s es small time miss st.
    let a = c.args.self.now.area in
    let i : List ℕ = g.C.Cells.words c.args.c.now in
    let e : c.sid_here-sid.result ≡ s.next_sid = c.sid_here-sid.ensures.answer ∙ next_sid_is a i s es small st in
    subst (λ (r : Sa). StatesStand a (g.C.Cells.words c.come.new.c) (with_state s r) (es ++ ((c.args.slot, r) ∷ [])))
    (new_is s c.args.spec.now c.args.larval c.sid_here-sid.result c.args.now e time)
    (c.come.ensures.stands s es miss e (subst (λ (w : List ℕ). StatesStand a w s es) (sym c.sid_here-sid.ensures.words) st))
