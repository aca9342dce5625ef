use Rattle.std.proofs.Common.{◌≡◌, ◌+◌, ◌*◌, drop, true}
use Rattle.xf_records.specs.Blocks.{stored}
use Rattle.xf_records.specs.Policies.{templates_words, TemplatesFit}
use Rattle.xf_records.proofs.templates.put_templates.Given as goal

abbrev pub invariant-templates : goal.invariant-templates
invariant-templates g l = record {
  place : l.place ≡ l.fn.at + 11 * l.template-index;
  size : g.C.Load.size l.c ≡ g.C.Load.size l.fn.c;
  begun : g.C.Load.begun l.c ≡ true;
  rest : g.C.Load.rest l.c ≡ g.C.Load.rest l.fn.c;
  loads : g.C.Load.loads l.c ≡ g.C.Load.loads l.fn.c;
  words : stored (g.C.Cells.words l.c) l.place (templates_words (drop l.template-index l.templates)) ≡ stored (g.C.Cells.words l.fn.c) l.fn.at (templates_words l.templates);
  fits : TemplatesFit (drop l.template-index l.templates) → TemplatesFit l.templates;
}
