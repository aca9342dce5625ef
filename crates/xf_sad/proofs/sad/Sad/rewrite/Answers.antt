use Rattle.std.proofs.Common.{ℕ, List, ◌∷◌, ◌++◌, sym, subst}
use Rattle.xf_image.specs.Frames.{Frame}
use Rattle.xf_sadidx.specs.Layout.{end_of}
use Rattle.xf_sadimage.specs.States.{StatesStand}
use Rattle.xf_sad.proofs.sad.Sad.rewrite.Goals as goal

pub returns-clause-frame : goal.returns-clause-frame
returns-clause-frame g c =
    let a = c.args.self.now.area in
    subst (λ (i : List ℕ). Frame a.base (end_of a) i (g.C.Cells.words c.rewrite.new.c)) c.begin.ensures.words c.rewrite.ensures.frame

pub returns-clause-stands : goal.returns-clause-stands
returns-clause-stands g c = λ shown front back was keys st.
    c.rewrite.ensures.stands shown front back was keys
    (subst (λ (i : List ℕ). StatesStand c.args.self.now.area i shown (front ++ ((c.args.slot, was) ∷ back))) (sym c.begin.ensures.words) st)
