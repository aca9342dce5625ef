use Rattle.std.proofs.Common.{◌≡◌, ◌+◌, drop, true}
use Rattle.xf_records.specs.Blocks.{stored}
use Rattle.xf_records.proofs.block.store_all.Given as goal

abbrev pub invariant-words : goal.invariant-words
invariant-words g l = record {
  place : l.place ≡ l.fn.at + l.word-index;
  size : g.C.Load.size l.cells ≡ g.C.Load.size l.fn.cells;
  begun : g.C.Load.begun l.cells ≡ true;
  rest : g.C.Load.rest l.cells ≡ g.C.Load.rest l.fn.cells;
  loads : g.C.Load.loads l.cells ≡ g.C.Load.loads l.fn.cells;
  words : stored (g.C.Cells.words l.cells) l.place (drop l.word-index l.words) ≡ stored (g.C.Cells.words l.fn.cells) l.fn.at l.words;
}
