use Rattle.std.proofs.Common.{◌≡◌, ℕ, ◌+◌, ◌<◌, ◌≤◌, List, Some, length, slice_index, subst, sym, ◌∙◌, rules}
use Rattle.xf_records.specs.States.{state_at}
use Rattle.xf_sadidx.specs.Layout.{Fits, record_place}
use Rattle.xf_sadlist.proofs.Rewritings.{Rewritten, rewritten_frame, rewritten_stand}
use Rattle.xf_sadlist.proofs.listing.StateListing.rewrite.Given as given
use Rattle.xf_sadlist.proofs.listing.StateListing.rewrite.Goals as goal

rewritten : (g : given.Over) (c : goal.After-put_state g)
    → Rewritten c.args.self.now.area (g.C.Cells.words c.args.c.now) (g.C.Cells.words c.put_state.new.c) c.args.slot c.args.s.now
rewritten g c =
    let a = c.args.self.now.area in
    let i : List ℕ = g.C.Cells.words c.args.c.now in
    let j : List ℕ = g.C.Cells.words c.put_state.new.c in
    let place : c.record_place.result ≡ record_place a c.args.slot = search rules in
    record {
      size = g.met.C.Cells.all c.put_state.new.c ∙ c.put_state.ensures.size ∙ sym (g.met.C.Cells.all c.args.c.now);
      below = subst (λ (p : ℕ). (q : ℕ) → q < p → slice_index j q ≡ slice_index i q) place c.put_state.ensures.below;
      above = subst (λ (p : ℕ). (q : ℕ) → p + 46 ≤ q → slice_index j q ≡ slice_index i q) place c.put_state.ensures.above;
      there = subst (λ (p : ℕ). state_at j p ≡ Some c.args.s.now) place c.put_state.ensures.back;
    }

pub returns-clause-frame : goal.returns-clause-frame
returns-clause-frame g c = rewritten_frame c.args.self.now.area _ _ c.args.slot c.args.s.now c.requires.slot (rewritten g c)

pub returns-clause-stands : goal.returns-clause-stands
returns-clause-stands g c =
    let a = c.args.self.now.area in
    let fits : Fits a (length (g.C.Cells.words c.args.c.now)) = subst (λ (x : ℕ). Fits a x) (sym (g.met.C.Cells.all c.args.c.now)) c.requires.fits in
    λ shown front back was keys st. rewritten_stand a _ _ c.args.slot c.args.s.now c.requires.slot (rewritten g c) shown front back was fits keys st
