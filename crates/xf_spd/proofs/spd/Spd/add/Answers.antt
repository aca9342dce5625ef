use Rattle.std.proofs.Common.{◌≡◌, ℕ, List, sym, subst}
use Rattle.xf_image.specs.Frames.{Frame}
use Rattle.xf_inexact.specs.Whole.{SpdStands, whole_end}
use Rattle.xf_spd.proofs.Alone.{in_order}
use Rattle.xf_spd.proofs.Inserted.{adds_is}
use Rattle.xf_listing.proofs.Loading.{words_kept, answer_kept}
use Rattle.xf_spd.proofs.spd.Spd.add.Given as given
use Rattle.xf_spd.proofs.spd.Spd.add.Goals as goal

same : (g : given.Over) (c : goal.After-list g) → g.C.Cells.words c.chosen-choice.new.l ≡ g.C.Cells.words c.args.c.now
same g c = words_kept _ _ _ _ c.chosen-choice.ensures.among (g.met.C.Cells.only c.args.c.now) (g.met.C.Cells.own c.chosen-choice.new.l)

pub returns-clause-frame : goal.returns-clause-frame
returns-clause-frame g c =
    subst (λ (i : List ℕ). Frame c.args.self.now.area.base (whole_end c.args.self.now.area) i (g.C.Cells.words c.list.new.c)) (same g c) c.list.ensures.frame

pub returns-clause-adds : goal.returns-clause-adds
returns-clause-adds g c = λ s es at stands miss.
    adds_is c.args.self.now.area (g.C.Cells.words c.args.c.now) (g.C.Cells.words c.list.new.c) s es c.args.slot c.args.spec.now c.chosen-choice.result at.room at.range stands
    (c.chosen-choice.ensures.answer _ (answer_kept _ _ _ _ c.chosen-choice.ensures.among (g.met.C.Cells.only c.args.c.now) (g.met.C.Cells.own c.chosen-choice.new.l)))
    (c.list.ensures.lists s es at.number (in_order s at.policies) at.time (subst (λ (i : List ℕ). SpdStands c.args.self.now.area i s es) (sym (same g c)) stands) miss)
