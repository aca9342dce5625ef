use Rattle.std.proofs.Common.{◌≡◌, ℕ, ◌+◌, ◌≤◌, List}
use Rattle.xf_cells.specs.Words.{Narrows}
use Rattle.xf_chain.specs.Chains.{Below, slots_from}
use Rattle.xf_listing.specs.Walks.{nth_on}
use Rattle.xf_image.specs.Readings.{listed_in}
use Rattle.xf_listing.proofs.listing.Listing.nth_listed.Given as goal

abbrev pub invariant-slots : goal.invariant-slots
invariant-slots g l = record {
  size : g.L.Load.size l.l ≡ g.L.Load.size l.fn.l;
  begun : g.L.Load.begun l.l ≡ g.L.Load.begun l.fn.l;
  rest : g.L.Load.rest l.l ≡ g.L.Load.rest l.fn.l;
  among : Narrows (g.L.Load.agrees l.fn.l) (g.L.Load.agrees l.l);
  most : g.L.Load.loads l.l + l.walk.left ≤ g.L.Load.loads l.fn.l + 1 + l.chain.slots;
  below : Below l.chain.slots l.walk.at;
  answer : (image : List ℕ) → g.L.Load.agrees l.l image → nth_on l.self.area image l.left (slots_from l.chain image l.walk.left l.walk.at) ≡ nth_on l.self.area image l.place (listed_in l.self.area image);
}

abbrev pub decreases-slots : goal.decreases-slots
decreases-slots g l = l.walk.left
