use Rattle.std.proofs.Common.{ap, sym, ◌∙◌}
use Rattle.std.specs.Prelude.{None, Some, option_copied}
use Rattle.xf_paths.proofs.Bests.{larval-found}
use Rattle.xf_paths.proofs.best.find_larval.Goals as goal

pub returns-in-None : goal.returns-in-None
returns-in-None c =
    larval-found c.args.stage.now c.args.states.now None (sym (ap option_copied c.in-None.is) ∙ c.last_larval.ensures)

pub returns-in-Some : goal.returns-in-Some
returns-in-Some c =
    ap Some c.state.ensures
    ∙ larval-found c.args.stage.now c.args.states.now (Some c.in-Some.found.now)
    (sym (ap option_copied c.in-Some.is) ∙ c.last_larval.ensures)
