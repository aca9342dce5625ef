use Rattle.std.proofs.Common.{◌≡◌, ℕ, ◌+◌, ◌*◌, ◌≤◌, List, find}
use Rattle.xf_cells.specs.Words.{Narrows}
use Rattle.xf_chain.specs.Chains.{Below, slots_of, slots_from}
use Rattle.xf_sadfind.specs.Slots.{has_sid_in}
use Rattle.xf_sadfind.proofs.finder.StateFinder.sid_on.Given as goal

abbrev pub invariant-slots : goal.invariant-slots
invariant-slots g l = record {
  size : g.L.Load.size l.l ≡ g.L.Load.size l.fn.l;
  begun : g.L.Load.begun l.l ≡ g.L.Load.begun l.fn.l;
  rest : g.L.Load.rest l.l ≡ g.L.Load.rest l.fn.l;
  among : Narrows (g.L.Load.agrees l.fn.l) (g.L.Load.agrees l.l);
  below : Below l.chain.slots l.walk.at;
  most : g.L.Load.loads l.l + 2 * l.walk.left ≤ g.L.Load.loads l.fn.l + 1 + 2 * l.chain.slots;
  answer : (image : List ℕ) → g.L.Load.agrees l.l image → find (has_sid_in l.self.area image l.sid) (slots_from l.chain image l.walk.left l.walk.at) ≡ find (has_sid_in l.self.area image l.sid) (slots_of l.chain image);
}

abbrev pub decreases-slots : goal.decreases-slots
decreases-slots g l = l.walk.left
