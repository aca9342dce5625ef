use Rattle.std.proofs.Common.{◌≡◌, ℕ, ◌+◌, ◌<◌, ◌≤◌, List, Some, length, slice_index, subst, sym, ◌∙◌, rules}
use Rattle.xf_records.specs.States.{state_at}
use Rattle.xf_sadidx.specs.Layout.{Fits, record_place}
use Rattle.xf_resize.specs.Rooms.{buckets_in, pending_in, Suffices}
use Rattle.xf_sadimage.specs.Writes.{last_in, linked}
use Rattle.xf_sadlist.specs.Listed.{count_in, tallied}
use Rattle.xf_sadlist.proofs.Comings.{Steps, steps_frame, steps_stand}
use Rattle.xf_sadlist.proofs.listing.StateListing.come.Given as given
use Rattle.xf_sadlist.proofs.listing.StateListing.come.Goals as goal

steps : (g : given.Over) (c : goal.After-put_state g)
    → Steps c.args.self.now.area (g.C.Cells.words c.args.c.now) (g.C.Cells.words c.tally.new.c) (g.C.Cells.words c.link.new.c) (g.C.Cells.words c.make_room.new.c)
    (g.C.Cells.words c.insert.new.c) (g.C.Cells.words c.put_state.new.c) c.args.slot c.args.s.now
steps g c =
    let a = c.args.self.now.area in
    let i : List ℕ = g.C.Cells.words c.args.c.now in
    let j : List ℕ = g.C.Cells.words c.tally.new.c in
    let k : List ℕ = g.C.Cells.words c.link.new.c in
    let l : List ℕ = g.C.Cells.words c.make_room.new.c in
    let m : List ℕ = g.C.Cells.words c.insert.new.c in
    let n : List ℕ = g.C.Cells.words c.put_state.new.c in
    let count : c.count_in-count.result ≡ count_in a i = search rules in
    let place : c.record_place.result ≡ record_place a c.args.slot = search rules in
    let header : j ≡ tallied a i c.args.s.now.sid (count_in a i + 1) = search rules in
    let chains : k ≡ linked a j (last_in a i) c.args.slot = search rules in
    record {
      header = header;
      chains = chains;
      room = c.make_room.ensures.frame;
      suffices = subst (λ (x : ℕ). Suffices (buckets_in a k) (pending_in a k) x → Suffices (buckets_in a l) (pending_in a l) (x + 1)) count c.make_room.ensures.suffices;
      roomy = c.make_room.ensures.entries;
      hashes = c.insert.ensures.frame;
      indexed = c.insert.ensures.entries;
      size = g.met.C.Cells.all c.put_state.new.c ∙ c.put_state.ensures.size ∙ sym (g.met.C.Cells.all c.insert.new.c);
      below = subst (λ (p : ℕ). (q : ℕ) → q < p → slice_index n q ≡ slice_index m q) place c.put_state.ensures.below;
      above = subst (λ (p : ℕ). (q : ℕ) → p + 46 ≤ q → slice_index n q ≡ slice_index m q) place c.put_state.ensures.above;
      back = subst (λ (p : ℕ). state_at n p ≡ Some c.args.s.now) place c.put_state.ensures.back;
    }

pub returns-clause-frame : goal.returns-clause-frame
returns-clause-frame g c =
    let a = c.args.self.now.area in
    let fits : Fits a (length (g.C.Cells.words c.args.c.now)) = subst (λ (x : ℕ). Fits a x) (sym (g.met.C.Cells.all c.args.c.now)) c.requires.fits in
    steps_frame a _ _ _ _ _ _ c.args.slot c.args.s.now fits c.requires.slot (steps g c)

pub returns-clause-stands : goal.returns-clause-stands
returns-clause-stands g c =
    let a = c.args.self.now.area in
    let fits : Fits a (length (g.C.Cells.words c.args.c.now)) = subst (λ (x : ℕ). Fits a x) (sym (g.met.C.Cells.all c.args.c.now)) c.requires.fits in
    λ shown entries miss sid st. steps_stand a _ _ _ _ _ _ c.args.slot c.args.s.now fits c.requires.slot (steps g c) shown entries miss sid st
