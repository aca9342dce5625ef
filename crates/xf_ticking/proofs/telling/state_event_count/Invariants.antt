use Rattle.std.proofs.Common.{◌≡◌, ℕ, ◌+◌, ◌≤◌, List, length}
use Rattle.xf_types.specs.declared.call.Event.{Event}
use Rattle.xf_types.specs.declared.state.Sa.{Sa}
use Rattle.xf_types.specs.Machine.{Shown}
use Rattle.xf_chain.specs.Chains.{Below}
use Rattle.xf_sadimage.specs.States.{StatesStand}
use Rattle.xf_ticking.specs.Walks.{Telling}
use Rattle.xf_ticking.proofs.telling.state_event_count.Given as goal

abbrev pub invariant-slots : goal.invariant-slots
invariant-slots g l = record {
  size : g.D.Load.size l.parts ≡ g.D.Load.size l.fn.parts;
  begun : g.D.Load.begun l.parts ≡ g.D.Load.begun l.fn.parts;
  rest : g.D.Load.rest l.parts ≡ g.D.Load.rest l.fn.parts;
  words : g.D.Cells.words l.parts ≡ g.D.Cells.words l.fn.parts;
  hidden : g.D.Parts.hidden l.parts ≡ g.D.Parts.hidden l.fn.parts;
  beside : g.D.Parts.beside l.parts ≡ g.D.Parts.beside l.fn.parts;
  below : Below l.layout.states.slots l.at;
  few : l.count + l.left ≤ l.layout.states.slots;
  telling : (s : Shown) (es : List (ℕ × Sa)) → StatesStand l.layout.states (g.D.Cells.words l.fn.parts) s es
      → Telling l.now (g.D.Parts.beside l.fn.parts) es l.at l.left (λ (xs : List Event). l.count ≡ length xs);
}

abbrev pub decreases-slots : goal.decreases-slots
decreases-slots g l = l.left
