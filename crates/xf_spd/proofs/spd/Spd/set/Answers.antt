use Rattle.std.proofs.Common.{◌≡◌, ℕ, List, ap, sym, ◌∙◌, subst, unwrap_or}
use Rattle.xf_image.specs.Frames.{Frame}
use Rattle.xf_inexact.specs.Whole.{SpdStands, whole_end}
use Rattle.xf_image.specs.Readings.{hthresh6_in}
use Rattle.xf_listing.proofs.Loading.{words_kept, answer_kept}
use Rattle.xf_listing.proofs.Settled.{given_stands}
use Rattle.xf_spd.proofs.spd.Spd.set.Given as given
use Rattle.xf_spd.proofs.spd.Spd.set.Goals as goal

first : (g : given.Over) (c : goal.After-move_all g) → g.C.Cells.words c.given4-h4.new.l ≡ g.C.Cells.words c.args.c.now
first g c = words_kept _ _ _ _ c.given4-h4.ensures.among (g.met.C.Cells.only c.args.c.now) (g.met.C.Cells.own c.given4-h4.new.l)

second : (g : given.Over) (c : goal.After-move_all g) → g.C.Cells.words c.given6-h6.new.l ≡ g.C.Cells.words c.args.c.now
second g c = words_kept _ _ _ _ c.given6-h6.ensures.among (g.met.C.Cells.only c.given4-h4.new.l) (g.met.C.Cells.own c.given6-h6.new.l) ∙ first g c

pub returns-clause-frame : goal.returns-clause-frame
returns-clause-frame g c =
    let a = c.args.self.now.area in
    subst (λ (i : List ℕ). Frame a.base (whole_end a) i (g.C.Cells.words c.move_all.new.c)) (second g c) c.move_all.ensures.frame

pub returns-clause-stands : goal.returns-clause-stands
returns-clause-stands g c = λ s es stands.
    let a = c.args.self.now.area in
    given_stands a (g.C.Cells.words c.args.c.now) (g.C.Cells.words c.move_all.new.c) s es c.args.t.now c.given4-h4.result c.given6-h6.result
    (c.given4-h4.ensures.answer _ (answer_kept _ _ _ _ c.given4-h4.ensures.among (g.met.C.Cells.only c.args.c.now) (g.met.C.Cells.own c.given4-h4.new.l)))
    (c.given6-h6.ensures.answer _ (answer_kept _ _ _ _ c.given6-h6.ensures.among (g.met.C.Cells.only c.given4-h4.new.l) (g.met.C.Cells.own c.given6-h6.new.l))
    ∙ ap (λ (i : List ℕ). unwrap_or c.args.t.now.v6 (hthresh6_in a i)) (first g c))
    stands.list (c.move_all.ensures.moves s es (subst (λ (i : List ℕ). SpdStands a i s es) (sym (second g c)) stands))
