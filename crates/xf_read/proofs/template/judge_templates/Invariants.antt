use Rattle.std.proofs.Common.{◌≡◌, drop}
use Rattle.xf_read.specs.Templates.{judged_templates}
use Rattle.xf_read.proofs.template.judge_templates.Given as goal

abbrev pub invariant-loop-template : goal.invariant-loop-template
invariant-loop-template l = judged_templates (drop l.template-index l.templates) ≡ judged_templates l.templates
