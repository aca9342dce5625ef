use Rattle.std.proofs.Common.{◌≡◌, filter, take}
use Rattle.xf_types.specs.Candidates.{latest_added}
use Rattle.xf_paths.specs.Stage.{is_preferred, states_of}
use Rattle.xf_paths.proofs.best.latest_added.Given as goal

abbrev pub invariant-loop-held : goal.invariant-loop-held
invariant-loop-held l = l.latest ≡ latest_added (filter (is_preferred l.stage l.living) (take l.held-index (states_of l.states)))
