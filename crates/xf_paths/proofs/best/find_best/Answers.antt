use Rattle.std.proofs.Common.{ap, sym, ◌∙◌}
use Rattle.std.specs.Prelude.{None, Some, option_copied}
use Rattle.xf_paths.proofs.Bests.{best-found}
use Rattle.xf_paths.proofs.best.find_best.Goals as goal

pub returns-in-None : goal.returns-in-None
returns-in-None c =
    best-found c.args.stage.now c.args.states.now c.any_living-living.result c.latest_added-added.result None
    c.any_living-living.ensures c.latest_added-added.ensures
    (sym (ap option_copied c.in-None.is) ∙ c.last_added.ensures)

pub returns-in-Some : goal.returns-in-Some
returns-in-Some c =
    ap Some c.state.ensures
    ∙ best-found c.args.stage.now c.args.states.now c.any_living-living.result c.latest_added-added.result (Some c.in-Some.found.now)
    c.any_living-living.ensures c.latest_added-added.ensures
    (sym (ap option_copied c.in-Some.is) ∙ c.last_added.ensures)
