use Rattle.std.proofs.Common.{◌≡◌, ℕ, List, length, subst, sym, rules}
use Rattle.xf_sadidx.specs.Layout.{Fits}
use Rattle.xf_sadimage.specs.Writes.{before_in, after_in, cut_out}
use Rattle.xf_sadlist.specs.Listed.{one_less}
use Rattle.xf_sadlist.proofs.Leavings.{Steps, steps_frame, steps_stand}
use Rattle.xf_sadlist.proofs.listing.StateListing.leave.Given as given
use Rattle.xf_sadlist.proofs.listing.StateListing.leave.Goals as goal

steps : (g : given.Over) (c : goal.After-remove g)
    → Steps c.args.self.now.area (g.C.Cells.words c.args.c.now) (g.C.Cells.words c.count_less.new.c) (g.C.Cells.words c.cut.new.c) (g.C.Cells.words c.remove.new.c)
    c.args.slot c.args.s.now
steps g c =
    let a = c.args.self.now.area in
    let i : List ℕ = g.C.Cells.words c.args.c.now in
    let j : List ℕ = g.C.Cells.words c.count_less.new.c in
    let k : List ℕ = g.C.Cells.words c.cut.new.c in
    let header : j ≡ one_less a i = search rules in
    let chains : k ≡ cut_out a j (before_in a i c.args.slot) (after_in a i c.args.slot) c.args.slot = search rules in
    record {
      header = header;
      chains = chains;
      hashes = c.remove.ensures.frame;
      indexed = c.remove.ensures.entries;
    }

pub returns-clause-frame : goal.returns-clause-frame
returns-clause-frame g c =
    let a = c.args.self.now.area in
    let fits : Fits a (length (g.C.Cells.words c.args.c.now)) = subst (λ (x : ℕ). Fits a x) (sym (g.met.C.Cells.all c.args.c.now)) c.requires.fits in
    steps_frame a _ _ _ _ c.args.slot c.args.s.now fits (steps g c)

pub returns-clause-stands : goal.returns-clause-stands
returns-clause-stands g c =
    let a = c.args.self.now.area in
    let fits : Fits a (length (g.C.Cells.words c.args.c.now)) = subst (λ (x : ℕ). Fits a x) (sym (g.met.C.Cells.all c.args.c.now)) c.requires.fits in
    λ shown front back st. steps_stand a _ _ _ _ c.args.slot c.args.s.now fits (steps g c) shown front back st
