use Rattle.std.proofs.Common.{◌≡◌, ◌≤◌, drop, length}
use Rattle.xf_read.specs.Templates.{templates_among}
use Rattle.xf_read.proofs.TemplateLaws.{joined}
use Rattle.xf_read.proofs.template.templates_among.Given as goal

abbrev pub invariant-loop-group : goal.invariant-loop-group
invariant-loop-group l = record {
  so_far : joined l.items.items (templates_among (drop l.group-index l.groups) l.policy l.fields)
      ≡ templates_among l.groups l.policy l.fields;
  few : length l.items.items ≤ l.group-index;
}
