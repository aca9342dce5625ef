use Rattle.std.proofs.Common.{◌≡◌, ℕ, ◌+◌, ◌*◌, ◌≤◌, List}
use Rattle.xf_types.specs.declared.policy.Policy.{Policy}
use Rattle.xf_types.specs.Machine.{Shown}
use Rattle.xf_cells.specs.Words.{Narrows}
use Rattle.xf_chain.specs.Chains.{Below}
use Rattle.xf_inexact.specs.Whole.{SpdStands}
use Rattle.xf_policies.specs.Visits.{Walked}
use Rattle.xf_policies.proofs.walking.walk.Given as goal

abbrev pub invariant-slots : goal.invariant-slots
invariant-slots g l = record {
  size : g.L.Load.size l.l ≡ g.L.Load.size l.fn.l;
  begun : g.L.Load.begun l.l ≡ g.L.Load.begun l.fn.l;
  rest : g.L.Load.rest l.l ≡ g.L.Load.rest l.fn.l;
  among : Narrows (g.L.Load.agrees l.fn.l) (g.L.Load.agrees l.l);
  few : g.L.Load.loads l.l + 102 * l.left ≤ g.L.Load.loads l.fn.l + 1 + 102 * l.spd.area.slots;
  below : Below l.spd.area.slots l.at;
  walked : (image : List ℕ) (s : Shown) (es : List (ℕ × Policy)) → g.L.Load.agrees l.l image → SpdStands l.spd.area image s es → Walked g.V.Visitor.goes l.fn.visitor l.visitor es l.at l.left;
}

abbrev pub decreases-slots : goal.decreases-slots
decreases-slots g l = l.left
