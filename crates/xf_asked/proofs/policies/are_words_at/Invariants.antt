use Rattle.std.proofs.Common.{◌≡◌, ℕ, ◌+◌, ◌≤◌, List, drop}
use Rattle.xf_cells.specs.Words.{Narrows}
use Rattle.xf_asked.specs.Asked.{are_words_at}
use Rattle.xf_asked.proofs.policies.are_words_at.Given as goal

abbrev pub invariant-words : goal.invariant-words
invariant-words g l = record {
  place : l.place ≡ l.fn.at + l.word-index;
  size : g.L.Load.size l.l ≡ g.L.Load.size l.fn.l;
  begun : g.L.Load.begun l.l ≡ g.L.Load.begun l.fn.l;
  rest : g.L.Load.rest l.l ≡ g.L.Load.rest l.fn.l;
  among : Narrows (g.L.Load.agrees l.fn.l) (g.L.Load.agrees l.l);
  loads : g.L.Load.loads l.l ≤ g.L.Load.loads l.fn.l + l.word-index;
  answer : (image : List ℕ) → g.L.Load.agrees l.l image → are_words_at image l.place (drop l.word-index l.words) ≡ are_words_at image l.fn.at l.words;
}
