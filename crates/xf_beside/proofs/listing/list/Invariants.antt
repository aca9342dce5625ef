use Rattle.std.proofs.Common.{◌≡◌, ℕ, List}
use Rattle.xf_types.specs.declared.policy.Policy.{Policy}
use Rattle.xf_types.specs.IsMachine.{IsInRoom}
use Rattle.xf_types.specs.Machine.{Shown}
use Rattle.xf_types.specs.PolicyList.{policy_meets}
use Rattle.xf_chain.specs.Chains.{Below}
use Rattle.xf_inexact.specs.Whole.{SpdStands}
use Rattle.xf_beside.specs.Passing.{Asking}
use Rattle.xf_beside.proofs.listing.list.Given as goal

abbrev pub invariant-slots : goal.invariant-slots
invariant-slots g l = record {
  size : g.C.Load.size l.c ≡ g.C.Load.size l.fn.c;
  words : g.C.Cells.words l.c ≡ g.C.Cells.words l.fn.c;
  below : Below l.spd.area.slots l.at;
  asking : (s : Shown) (es : List (ℕ × Policy)) → IsInRoom s → SpdStands l.spd.area (g.C.Cells.words l.fn.c) s es → Asking (policy_meets l.wanted) es l.at l.left l.found.items;
}

abbrev pub decreases-slots : goal.decreases-slots
decreases-slots g l = l.left
