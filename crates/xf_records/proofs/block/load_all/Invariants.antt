use Rattle.std.proofs.Common.{◌≡◌, ℕ, ◌+◌, ◌≤◌, List, ◌++◌, take, drop}
use Rattle.xf_cells.specs.Words.{Narrows}
use Rattle.xf_records.specs.Blocks.{fetched}
use Rattle.xf_records.proofs.block.load_all.Given as goal

abbrev pub invariant-words : goal.invariant-words
invariant-words g l = record {
  place : l.place ≡ l.fn.at + l.word-index;
  size : g.L.Load.size l.cells ≡ g.L.Load.size l.fn.cells;
  begun : g.L.Load.begun l.cells ≡ g.L.Load.begun l.fn.cells;
  rest : g.L.Load.rest l.cells ≡ g.L.Load.rest l.fn.cells;
  among : Narrows (g.L.Load.agrees l.fn.cells) (g.L.Load.agrees l.cells);
  loads : g.L.Load.loads l.cells ≤ g.L.Load.loads l.fn.cells + l.word-index;
  words : (image : List ℕ) → g.L.Load.agrees l.cells image → take l.word-index l.words ++ fetched image l.place (drop l.word-index l.words) ≡ fetched image l.fn.at l.fn.words;
}
