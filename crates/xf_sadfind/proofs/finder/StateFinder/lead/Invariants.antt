use Rattle.std.proofs.Common.{◌≡◌, ℕ, ◌+◌, ◌*◌, ◌≤◌, List, drop, length}
use Rattle.xf_types.specs.declared.state.Sa.{Sa}
use Rattle.xf_cells.specs.Words.{Narrows}
use Rattle.xf_chain.specs.Lists.{Within}
use Rattle.xf_sadidx.specs.Standing.{StatesIndexed, RecordsStand}
use Rattle.xf_sadfind.specs.Tried.{states_met}
use Rattle.xf_sadfind.proofs.Ways.{IsLed}
use Rattle.xf_sadfind.proofs.finder.StateFinder.lead.Given as goal

-- what all templates come to is what those from the place on come to, behind the hops so far
abbrev pub invariant-loop-place : goal.invariant-loop-place
invariant-loop-place g l = record {
  size : g.L.Load.size l.l ≡ g.L.Load.size l.fn.l;
  begun : g.L.Load.begun l.l ≡ g.L.Load.begun l.fn.l;
  rest : g.L.Load.rest l.l ≡ g.L.Load.rest l.fn.l;
  among : Narrows (g.L.Load.agrees l.fn.l) (g.L.Load.agrees l.l);
  most : g.L.Load.loads l.l ≤ g.L.Load.loads l.fn.l + (4 + 50 * l.self.area.slots) * l.place;
  room : length l.slots.items ≤ l.place;
  within : Within l.self.area.slots l.slots.items;
  loads : (image : List ℕ) (entries : List (ℕ × Sa)) → g.L.Load.agrees l.l image → StatesIndexed l.self.area image entries → RecordsStand l.self.area image entries
      → g.L.Load.loads l.l + 100 * states_met l.self.area image entries l.flow (drop l.place l.templates) l.src l.dst
      ≤ g.L.Load.loads l.fn.l + 4 * l.place + 100 * states_met l.self.area image entries l.flow l.templates l.flow.src l.flow.dst;
  led : (image : List ℕ) (entries : List (ℕ × Sa)) → g.L.Load.agrees l.l image → StatesIndexed l.self.area image entries → RecordsStand l.self.area image entries
      → IsLed entries l.flow l.templates l.slots.items l.place l.src l.dst;
}
