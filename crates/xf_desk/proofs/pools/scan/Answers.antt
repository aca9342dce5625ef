use Rattle.std.proofs.Common.{◌+◌, sym, subst, ◌∙◌, arith}
use Rattle.xf_desk.specs.Pools.{IsScan}
use Rattle.xf_desk.proofs.Scanning.{one_listed, one_free}
use Rattle.xf_desk.proofs.pools.scan.Goals as goal
use Rattle.xf_desk.proofs.pools.scan.Goals.{then-load-eq-LISTED, else-load-eq-LISTED}

-- src/pools.rt:33:5
pub slots-preserved : goal.slots-preserved
slots-preserved g c = elim c.if-load-eq-LISTED.branch [
  | then-load-eq-LISTED w ↦ record {
    slot = omega (arith, c.slots-test.true);
    size = c.load.ensures.size ∙ c.slots.invariant.size;
    begun = c.load.ensures.begun ∙ c.slots.invariant.begun;
    rest = c.load.ensures.rest ∙ c.slots.invariant.rest;
    among = record { among = λ image is. c.slots.invariant.among.among image (c.load.ensures.among.among image is) };
    few = omega (arith, w.live-is, c.slots.invariant.few);
    room = λ k e. let r = c.slots.invariant.room k (sym w.free-is ∙ e) in omega (arith, r, w.live-is);
    scan = λ image is.
        subst (λ live. IsScan c.args.first (c.slots.slot + 1) image live c.if-load-eq-LISTED.free) (sym w.live-is)
        (subst (λ free. IsScan c.args.first (c.slots.slot + 1) image (c.slots.live + 1) free) (sym w.free-is)
        (one_listed c.args.first c.slots.slot c.slots.live c.slots.free image (c.slots.invariant.scan image (c.load.ensures.among.among image is))
        (sym (c.load.ensures.word image is) ∙ w.if-load-eq-LISTED.true)));
  }
  | else-load-eq-LISTED w ↦ record {
    slot = omega (arith, c.slots-test.true);
    size = c.load.ensures.size ∙ c.slots.invariant.size;
    begun = c.load.ensures.begun ∙ c.slots.invariant.begun;
    rest = c.load.ensures.rest ∙ c.slots.invariant.rest;
    among = record { among = λ image is. c.slots.invariant.among.among image (c.load.ensures.among.among image is) };
    few = omega (arith, w.live-is, c.slots.invariant.few);
    room = λ k e. omega (arith, w.live-is, c.slots.invariant.few);
    scan = λ image is.
        subst (λ live. IsScan c.args.first (c.slots.slot + 1) image live c.if-load-eq-LISTED.free) (sym w.live-is)
        (subst (λ free. IsScan c.args.first (c.slots.slot + 1) image c.slots.live free) (sym w.free-is)
        (one_free c.args.first c.slots.slot c.slots.live c.slots.free image (c.slots.invariant.scan image (c.load.ensures.among.among image is))
        (λ e. w.if-load-eq-LISTED.false (c.load.ensures.word image is ∙ e))));
  }
]
