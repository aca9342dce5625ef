-- The states come behind the policies.
use Rattle.std.proofs.Common.{arith}
use Rattle.std.proofs.lemmas.Result.{on_ok_weaker}
use Rattle.xf_batch.specs.Generated.{policies, states}
use Rattle.xf_batch.proofs.MakingLines.{Asks-join, each-line}
use Rattle.xf_batch.proofs.generated_phases.add_all.Goals as goal

pub add_states-requires-clause-room : goal.add_states-requires-clause-room
add_states-requires-clause-room c = omega (arith, each-line _ _ _ _ _ c.in_ok-add_policies.ensures)

pub returns : goal.returns
returns c =
    let a = c.args.made.now in
    on_ok_weaker _ (Asks-join a _ _ (policies c.args.worker a.x) (states c.args.worker) 500 0 c.in_ok-add_policies.ensures)
    c.add_states.ensures
