use Rattle.std.proofs.Common.{ℕ, List, sym, subst, arith}
use Rattle.xf_index.specs.Indexes.{records_in}
use Rattle.xf_image.specs.Frames.{Frame}
use Rattle.xf_image.proofs.Written.{both}
use Rattle.xf_sadidx.specs.Layout.{end_of}
use Rattle.xf_sadimage.specs.States.{StatesStand}
use Rattle.xf_sadlist.specs.Listed.{with_states}
use Rattle.xf_sad.specs.Changes.{entries_but}
use Rattle.xf_sad.proofs.Placings.{but_misses}
use Rattle.xf_sad.proofs.sad.Sad.replace.Goals as goal

pub returns-clause-frame : goal.returns-clause-frame
returns-clause-frame g c =
    let a = c.args.self.now.area in
    let first : Frame a.base (end_of a) (g.C.Cells.words c.args.c.now) (g.C.Cells.words c.unlist_if.new.c) =
    subst (λ (i : List ℕ). Frame a.base (end_of a) i (g.C.Cells.words c.unlist_if.new.c)) c.begin.ensures.words c.unlist_if.ensures.frame in
    both a.base (end_of a) a.base a.base (end_of a) (end_of a) _ _ _ first c.list.ensures.frame (omega arith) (omega arith) (omega arith) (omega arith)

pub returns-clause-stands : goal.returns-clause-stands
returns-clause-stands g c = λ s es small time miss listed st.
    let a = c.args.self.now.area in
    c.list.ensures.stands (with_states s (records_in (entries_but c.args.gone es))) (entries_but c.args.gone es) small time (but_misses c.args.slot c.args.gone es miss)
    (c.unlist_if.ensures.stands s es listed (subst (λ (i : List ℕ). StatesStand a i s es) (sym c.begin.ensures.words) st))
