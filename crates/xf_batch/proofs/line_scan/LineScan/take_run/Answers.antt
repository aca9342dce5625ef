use Rattle.std.proofs.Common.{arith}
use Rattle.xf_batch.proofs.Runs.{Scans-run}
use Rattle.xf_batch.proofs.line_scan.LineScan.take_run.Goals as goal

pub returns-clause-scans : goal.returns-clause-scans
returns-clause-scans c = λ front before.
    Scans-run front c.args.rest.now c.args.self.now c.min-count.result (omega (arith, c.steady_count.ensures.count)) (omega arith) before
