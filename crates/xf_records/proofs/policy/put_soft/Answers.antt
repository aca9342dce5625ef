use Rattle.std.proofs.Common.{◌≡◌, ◌+◌, ◌≤◌, length, rules, arith}
use Rattle.xf_records.proofs.PolicyLaws.{policy_warned}
use Rattle.xf_records.proofs.policy.put_soft.Goals as goal

pub returns-clause-record_there : goal.returns-clause-record_there
returns-clause-record_there g c =
    let l : length (g.C.Cells.words c.args.c.now) ≡ g.C.Load.size c.args.c.now = search rules in
    let k : c.args.at + 101 ≤ length (g.C.Cells.words c.args.c.now) = omega arith in
    λ r e. rw c.store.ensures.words (policy_warned _ c.args.at r k e)
