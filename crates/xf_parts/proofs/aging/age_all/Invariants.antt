use Rattle.std.proofs.Common.{◌-◌, ◌≡◌, ◌≤◌}
use Rattle.xf_parts.proofs.AgeLemmas.{AgedBelow}
use Rattle.xf_parts.proofs.aging.age_all.Given as goal

abbrev pub invariant-slots : goal.invariant-slots
invariant-slots g l = record {
  size : g.P.Load.size l.parts ≡ g.P.Load.size l.fn.parts;
  begun : g.P.Load.begun l.parts ≡ g.P.Load.begun l.fn.parts;
  words : g.P.Cells.words l.parts ≡ g.P.Cells.words l.fn.parts;
  hidden : g.P.Parts.hidden l.parts ≡ g.P.Parts.hidden l.fn.parts;
  within : l.slot ≤ l.count;
  aged : AgedBelow l.now l.slot (g.P.Parts.beside l.fn.parts) (g.P.Parts.beside l.parts);
}

abbrev pub decreases-slots : goal.decreases-slots
decreases-slots g l = l.count - l.slot
