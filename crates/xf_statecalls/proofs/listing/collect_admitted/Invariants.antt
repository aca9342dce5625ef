use Rattle.std.proofs.Common.{◌≡◌, ℕ, List}
use Rattle.xf_types.specs.declared.state.Sa.{Sa}
use Rattle.xf_types.specs.Machine.{Shown}
use Rattle.xf_types.specs.StateList.{state_meets}
use Rattle.xf_cells.specs.Words.{Narrows}
use Rattle.xf_chain.specs.Chains.{Below}
use Rattle.xf_sadimage.specs.States.{StatesStand}
use Rattle.xf_statecalls.specs.Sweeps.{Reading}
use Rattle.xf_statecalls.proofs.listing.collect_admitted.Given as goal

abbrev pub invariant-slots : goal.invariant-slots
invariant-slots g l = record {
  size : g.L.Load.size l.l ≡ g.L.Load.size l.fn.l;
  begun : g.L.Load.begun l.l ≡ g.L.Load.begun l.fn.l;
  rest : g.L.Load.rest l.l ≡ g.L.Load.rest l.fn.l;
  among : Narrows (g.L.Load.agrees l.fn.l) (g.L.Load.agrees l.l);
  below : Below l.layout.states.slots l.at;
  reading : (image : List ℕ) (s : Shown) (entries : List (ℕ × Sa)) → g.L.Load.agrees l.l image → StatesStand l.layout.states image s entries
      → Reading (state_meets l.wanted) entries l.at l.left l.admitted.items;
}

abbrev pub decreases-slots : goal.decreases-slots
decreases-slots g l = l.left
