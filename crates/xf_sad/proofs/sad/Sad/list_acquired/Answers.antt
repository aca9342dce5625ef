use Rattle.std.proofs.Common.{ℕ, List, sym, subst, arith}
use Rattle.xf_image.specs.Frames.{Frame}
use Rattle.xf_image.proofs.Written.{both}
use Rattle.xf_sadidx.specs.Layout.{end_of}
use Rattle.xf_sadimage.specs.States.{StatesStand}
use Rattle.xf_sadlist.specs.Listed.{with_next_seq}
use Rattle.xf_sad.proofs.sad.Sad.list_acquired.Goals as goal

pub returns-clause-frame : goal.returns-clause-frame
returns-clause-frame g c =
    let a = c.args.self.now.area in
    let first : Frame a.base (end_of a) (g.C.Cells.words c.args.c.now) (g.C.Cells.words c.set_next_seq.new.c) =
    subst (λ (i : List ℕ). Frame a.base (end_of a) i (g.C.Cells.words c.set_next_seq.new.c)) c.begin.ensures.words c.set_next_seq.ensures.frame in
    both a.base (end_of a) a.base a.base (end_of a) (end_of a) _ _ _ first c.list.ensures.frame (omega arith) (omega arith) (omega arith) (omega arith)

pub returns-clause-stands : goal.returns-clause-stands
returns-clause-stands g c = λ s es small time miss st.
    c.list.ensures.stands (with_next_seq s c.args.next) es small time miss
    (c.set_next_seq.ensures.stands s es (subst (λ (i : List ℕ). StatesStand c.args.self.now.area i s es) (sym c.begin.ensures.words) st))
