use Rattle.std.proofs.Common.{◌-◌, ◌≡◌, ℕ, ◌<◌, ◌≤◌, List, Some}
use Rattle.xf_cells.specs.Words.{Narrows}
use Rattle.xf_desk.specs.Pools.{IsScan}
use Rattle.xf_desk.proofs.pools.scan.Given as goal

abbrev pub invariant-slots : goal.invariant-slots
invariant-slots g l = record {
  slot : l.slot ≤ l.count;
  size : g.L.Load.size l.words ≡ g.L.Load.size l.fn.words;
  begun : g.L.Load.begun l.words ≡ g.L.Load.begun l.fn.words;
  rest : g.L.Load.rest l.words ≡ g.L.Load.rest l.fn.words;
  among : Narrows (g.L.Load.agrees l.fn.words) (g.L.Load.agrees l.words);
  few : l.live ≤ l.slot;
  room : (k : ℕ) → l.free ≡ Some k → l.live < l.slot;
  scan : (image : List ℕ) → g.L.Load.agrees l.words image → IsScan l.first l.slot image l.live l.free;
}

abbrev pub decreases-slots : goal.decreases-slots
decreases-slots g l = l.count - l.slot
