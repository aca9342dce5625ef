use Rattle.std.proofs.Common.{◌≡◌, ◌+◌, ◌≤◌, length, rules, arith}
use Rattle.xf_records.proofs.StateLaws.{state_dying}
use Rattle.xf_records.proofs.state.put_dying.Goals as goal

pub returns-clause-record_there : goal.returns-clause-record_there
returns-clause-record_there g c =
    let l : length (g.C.Cells.words c.args.c.now) ≡ g.C.Load.size c.args.c.now = search rules in
    let k : c.args.at + 46 ≤ length (g.C.Cells.words c.args.c.now) = omega arith in
    λ r e. rw c.store.ensures.words (state_dying _ c.args.at r k e)
