-- The line with the task that was put is the one that was asked for.
use Rattle.std.proofs.Common.{ap, sym, ◌∙◌, refl}
use Rattle.std.proofs.lemmas.List.{map-append}
use Rattle.xf_batch.specs.Shown.{line_of, lines_shown}
use Rattle.xf_batch.proofs.MakingLines.{x_after-none}
use Rattle.xf_batch.proofs.generated_lines.Making.ask.Goals as goal

pub returns-in-Ok : goal.returns-in-Ok
returns-in-Ok c =
    record {
      lines = ap lines_shown c.in-Ok.ensures.items ∙ map-append line_of c.args.self.now.tasks.items _;
      next = refl;
      x = sym (x_after-none c.args.self.now.x);
    }
