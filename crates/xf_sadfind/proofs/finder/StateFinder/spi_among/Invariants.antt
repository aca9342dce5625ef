use Rattle.std.proofs.Common.{◌≡◌, ℕ, ◌+◌, ◌*◌, ◌≤◌, List, find, not}
use Rattle.xf_types.specs.declared.state.Sa.{Sa}
use Rattle.xf_types.specs.Counters.{upwards}
use Rattle.xf_types.specs.StateRules.{is_spi_taken}
use Rattle.xf_cells.specs.Words.{Narrows}
use Rattle.xf_index.specs.Indexes.{records_in}
use Rattle.xf_sadidx.specs.Standing.{StatesIndexed, RecordsStand}
use Rattle.xf_sadfind.proofs.Tries.{left_from}
use Rattle.xf_sadfind.proofs.finder.StateFinder.spi_among.Given as goal

-- the search from here on finds what the search from the start finds
abbrev pub invariant-numbers : goal.invariant-numbers
invariant-numbers g l = record {
  size : g.L.Load.size l.l ≡ g.L.Load.size l.fn.l;
  begun : g.L.Load.begun l.l ≡ g.L.Load.begun l.fn.l;
  rest : g.L.Load.rest l.l ≡ g.L.Load.rest l.fn.l;
  among : Narrows (g.L.Load.agrees l.fn.l) (g.L.Load.agrees l.l);
  most : g.L.Load.loads l.l ≤ g.L.Load.loads l.fn.l + (4 + 50 * l.self.area.slots) * l.tried;
  state : (image : List ℕ) (entries : List (ℕ × Sa)) → g.L.Load.agrees l.l image → StatesIndexed l.self.area image entries → RecordsStand l.self.area image entries
      → left_from (λ spi. not (is_spi_taken l.spec (records_in entries) spi)) l.spec.min l.tried l.tries
      ≡ find (λ spi. not (is_spi_taken l.spec (records_in entries) spi)) (upwards l.spec.min l.tries);
}
