use Rattle.std.proofs.Common.{◌≡◌, ℕ, ◌-◌, List, length, slice_set, subst, sym, rules, arith}
use Rattle.xf_image.specs.Frames.{Frame}
use Rattle.xf_image.proofs.Written.{wider}
use Rattle.xf_sadidx.specs.Layout.{Fits, end_of, next_seq_place}
use Rattle.xf_sadimage.specs.States.{StatesStand}
use Rattle.xf_sadlist.specs.Listed.{with_next_seq}
use Rattle.xf_sadlist.proofs.Tallies.{seq_frame, seq_stands}
use Rattle.xf_sadlist.proofs.listing.StateListing.set_next_seq.Given as given
use Rattle.xf_sadlist.proofs.listing.StateListing.set_next_seq.Goals as goal

words : (g : given.Over) (c : goal.After-store g)
    → g.C.Cells.words c.store.new.self ≡ slice_set (g.C.Cells.words c.args.c.now) (next_seq_place c.args.self.now.area) (c.args.seq - 1)
words g c = search rules

pub returns-clause-frame : goal.returns-clause-frame
returns-clause-frame g c =
    let a = c.args.self.now.area in
    let i : List ℕ = g.C.Cells.words c.args.c.now in
    subst (λ (w : List ℕ). Frame a.base (end_of a) i w) (sym (words g c))
    (wider a.base (end_of a) _ _ i (slice_set i (next_seq_place a) (c.args.seq - 1)) (seq_frame a i (c.args.seq - 1)) (omega arith) (omega arith))

pub returns-clause-stands : goal.returns-clause-stands
returns-clause-stands g c =
    let a = c.args.self.now.area in
    let i : List ℕ = g.C.Cells.words c.args.c.now in
    let fits : Fits a (length i) = subst (λ (x : ℕ). Fits a x) (sym (g.met.C.Cells.all c.args.c.now)) c.requires.fits in
    let some = c.requires.some in
    λ shown es st. subst (λ (w : List ℕ). StatesStand a w (with_next_seq shown c.args.seq) es) (sym (words g c))
    (seq_stands a i c.args.seq (c.args.seq - 1) shown es fits (omega (arith, some)) st)
