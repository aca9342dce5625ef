use Rattle.std.proofs.Common.{◌≡◌, ℕ, List, length}
use Rattle.xf_types.specs.declared.state.Sa.{Sa}
use Rattle.xf_types.specs.Machine.{Shown}
use Rattle.xf_chain.specs.Chains.{Below}
use Rattle.xf_sadimage.specs.States.{StatesStand}
use Rattle.xf_ticking.proofs.Enters.{Entering}
use Rattle.xf_ticking.proofs.entering.enter_all.Given as goal

abbrev pub invariant-slots : goal.invariant-slots
invariant-slots g l = record {
  size : g.D.Load.size l.parts ≡ g.D.Load.size l.fn.parts;
  begun : g.D.Load.begun l.parts ≡ g.D.Load.begun l.fn.parts;
  words : g.D.Cells.words l.parts ≡ g.D.Cells.words l.fn.parts;
  hidden : g.D.Parts.hidden l.parts ≡ g.D.Parts.hidden l.fn.parts;
  count : length (g.D.Parts.beside l.parts).values ≡ length (g.D.Parts.beside l.fn.parts).values;
  below : Below l.layout.states.slots l.at;
  entering : (s : Shown) (es : List (ℕ × Sa)) → StatesStand l.layout.states (g.D.Cells.words l.fn.parts) s es
      → Entering (g.D.Parts.beside l.fn.parts) (g.D.Parts.beside l.parts) es l.at l.left;
}

abbrev pub decreases-slots : goal.decreases-slots
decreases-slots g l = l.left
