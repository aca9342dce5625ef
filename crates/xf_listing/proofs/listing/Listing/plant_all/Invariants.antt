use Rattle.std.proofs.Common.{◌≡◌, ℕ, List, true}
use Rattle.xf_types.specs.declared.policy.Policy.{Policy}
use Rattle.xf_types.specs.Machine.{Shown}
use Rattle.xf_chain.specs.Chains.{Below, slots_from}
use Rattle.xf_image.specs.Frames.{Frame}
use Rattle.xf_image.specs.Layout.{end_of}
use Rattle.xf_image.specs.Policies.{PoliciesStand}
use Rattle.xf_inexact.specs.Whole.{whole_end}
use Rattle.xf_listing.proofs.Planted.{Planted}
use Rattle.xf_listing.proofs.listing.Listing.plant_all.Given as goal

abbrev pub invariant-slots : goal.invariant-slots
invariant-slots g l = record {
  size : g.C.Load.size l.c ≡ g.C.Load.size l.fn.c;
  begun : g.C.Load.begun l.c ≡ true;
  rest : g.C.Load.rest l.c ≡ g.C.Load.rest l.fn.c;
  below : Below l.chain.slots l.walk.at;
  frame : Frame (end_of l.self.area) (whole_end l.self.area) (g.C.Cells.words l.fn.c) (g.C.Cells.words l.c);
  planted : (s : Shown) (es : List (ℕ × Policy)) → PoliciesStand l.self.area (g.C.Cells.words l.fn.c) s es → Planted l.self.area (g.C.Cells.words l.c) (slots_from l.chain (g.C.Cells.words l.c) l.walk.left l.walk.at) s es;
}

abbrev pub decreases-slots : goal.decreases-slots
decreases-slots g l = l.walk.left
