use Rattle.std.proofs.Common.{rules, ap, ◌∙◌, reverse}
use Rattle.xf_types.specs.Machine.{Machine}
use Rattle.xf_types.specs.Steps.{step}
use Rattle.xf_hist.proofs.Nexts.{counted-next}
use Rattle.xf_hist.proofs.moment.Moment.moves.Goals as goal

pub returns-clause-next : goal.returns-clause-next
returns-clause-next c done =
    let m = c.args.self.now in
    counted-next m _ (reverse c.args.past.now) c.args.receipt.now c.requires.inside
    (c.in_ok-answers.ensures.machine ∙ ap (λ (n : Machine). (step n c.args.receipt.now.call).machine) c.in_ok-next.ensures)
    (search rules) (search rules)
