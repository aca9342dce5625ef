-- What is written, and the templates that come, are what stood there and all templates.
use Rattle.std.specs.Prelude.{◌≡◌, ◌++◌, drop}
use Rattle.std.specs.List.{flat_map}
use Rattle.xf_print.specs.Records.{template_text}
use Rattle.xf_print.proofs.policy.put_templates.Given as goal

abbrev pub invariant-loop-template : goal.invariant-loop-template
invariant-loop-template l =
    l.out.items ++ flat_map template_text (drop l.template-index l.templates)
    ≡ l.initial.out.items ++ flat_map template_text l.templates
