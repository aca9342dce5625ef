use Rattle.std.proofs.Common.{◌≡◌, ℕ, ◌+◌, ◌-◌, ◌*◌, ◌≤◌, List, length}
use Rattle.xf_cells.specs.Words.{Narrows}
use Rattle.xf_records.specs.Policies.{templates_at, joined}
use Rattle.xf_records.proofs.templates.get_templates.Given as goal

abbrev pub invariant-templates : goal.invariant-templates
invariant-templates g l = record {
  place : l.place ≡ l.fn.at + 11 * l._read;
  length : length l.items.items ≡ l._read;
  size : g.L.Load.size l.l ≡ g.L.Load.size l.fn.l;
  begun : g.L.Load.begun l.l ≡ g.L.Load.begun l.fn.l;
  rest : g.L.Load.rest l.l ≡ g.L.Load.rest l.fn.l;
  among : Narrows (g.L.Load.agrees l.fn.l) (g.L.Load.agrees l.l);
  loads : g.L.Load.loads l.l ≤ g.L.Load.loads l.fn.l + 11 * l._read;
  answer : (image : List ℕ) → g.L.Load.agrees l.l image → joined l.items.items (templates_at image l.place (l.fn.count - l._read)) ≡ templates_at image l.fn.at l.fn.count;
}
