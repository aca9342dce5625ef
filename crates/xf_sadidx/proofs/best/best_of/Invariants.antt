use Rattle.std.proofs.Common.{◌≡◌, ℕ, ◌+◌, ◌*◌, ◌≤◌, List, None, length}
use Rattle.xf_cells.specs.Words.{Narrows}
use Rattle.xf_chain.specs.Chains.{Below, slots_of, slots_from}
use Rattle.xf_sadidx.specs.Bests.{best_from, slot_seen}
use Rattle.xf_sadidx.proofs.best.best_of.Given as goal

abbrev pub invariant-slots : goal.invariant-slots
invariant-slots g l = record {
  size : g.L.Load.size l.l ≡ g.L.Load.size l.fn.l;
  begun : g.L.Load.begun l.l ≡ g.L.Load.begun l.fn.l;
  rest : g.L.Load.rest l.l ≡ g.L.Load.rest l.fn.l;
  among : Narrows (g.L.Load.agrees l.fn.l) (g.L.Load.agrees l.l);
  below : Below l.chain.slots l.walk.at;
  slot : Below l.area.slots (slot_seen l.best);
  most : g.L.Load.loads l.l + 50 * l.walk.left ≤ g.L.Load.loads l.fn.l + 1 + 50 * l.chain.slots;
  loads : (image : List ℕ) → g.L.Load.agrees l.l image → g.L.Load.loads l.l + 50 * length (slots_from l.chain image l.walk.left l.walk.at) ≤ g.L.Load.loads l.fn.l + 1 + 50 * length (slots_of l.chain image);
  answer : (image : List ℕ) → g.L.Load.agrees l.l image → best_from l.area image l.query l.best (slots_from l.chain image l.walk.left l.walk.at) ≡ best_from l.area image l.query None (slots_of l.chain image);
}

abbrev pub decreases-slots : goal.decreases-slots
decreases-slots g l = l.walk.left
