use Rattle.std.proofs.Common.{◌≡◌, true}
use Rattle.xf_chain.specs.Chains.{Below, slots_from}
use Rattle.xf_image.specs.Readings.{hthresh4_in, hthresh6_in}
use Rattle.xf_image.specs.Writes.{moved_all, set_words}
use Rattle.xf_listing.proofs.listing.Listing.move_exact.Given as goal

abbrev pub invariant-slots : goal.invariant-slots
invariant-slots g l = record {
  size : g.C.Load.size l.c ≡ g.C.Load.size l.fn.c;
  begun : g.C.Load.begun l.c ≡ true;
  rest : g.C.Load.rest l.c ≡ g.C.Load.rest l.fn.c;
  below : Below l.chain.slots l.walk.at;
  v4 : hthresh4_in l.self.area (g.C.Cells.words l.c) ≡ l.fn.h4;
  v6 : hthresh6_in l.self.area (g.C.Cells.words l.c) ≡ l.fn.h6;
  words : moved_all l.self.area l.fn.h4 l.fn.h6 (g.C.Cells.words l.c) (slots_from l.chain (g.C.Cells.words l.c) l.walk.left l.walk.at) ≡ set_words l.self.area (g.C.Cells.words l.fn.c) l.fn.h4 l.fn.h6;
}

abbrev pub decreases-slots : goal.decreases-slots
decreases-slots g l = l.walk.left
