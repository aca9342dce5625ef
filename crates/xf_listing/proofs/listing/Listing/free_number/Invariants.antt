use Rattle.std.proofs.Common.{◌≡◌, ℕ, ◌-◌, ◌^◌, ◌≤◌, List}
use Rattle.xf_cells.specs.Words.{Narrows}
use Rattle.xf_listing.specs.Walks.{free_in}
use Rattle.xf_listing.proofs.listing.Listing.free_number.Given as goal

abbrev pub invariant-numbers : goal.invariant-numbers
invariant-numbers g l = record {
  size : g.L.Load.size l.l ≡ g.L.Load.size l.fn.l;
  begun : g.L.Load.begun l.l ≡ g.L.Load.begun l.fn.l;
  rest : g.L.Load.rest l.l ≡ g.L.Load.rest l.fn.l;
  among : Narrows (g.L.Load.agrees l.fn.l) (g.L.Load.agrees l.l);
  some : 1 ≤ l.number;
  most : l.number ≤ 2 ^ 29 - 1;
  answer : (image : List ℕ) → g.L.Load.agrees l.l image → free_in l.self.area image l.remainder l.number l.left ≡ free_in l.self.area image l.remainder l.from l.tries;
}

abbrev pub decreases-numbers : goal.decreases-numbers
decreases-numbers g l = l.left
