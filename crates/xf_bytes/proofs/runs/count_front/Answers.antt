use Rattle.std.proofs.Common.{arith}
use Rattle.xf_bytes.proofs.Counting.{last_vector, vector_passes, vector_stops}
use Rattle.xf_bytes.proofs.runs.count_front.Goals as goal

pub returns-then-run-lt-LANES-clause-count : goal.returns-then-run-lt-LANES-clause-count
returns-then-run-lt-LANES-clause-count g c =
    omega (
      arith,
      c.loop-seen.invariant.count,
      vector_stops (g.K.Kind.has c.args.kind.now) c.args.bytes.now c.loop-seen.seen 16 c.run-run.result
          (omega arith) c.run-run.ensures c.if-run-lt-LANES.true,
    )

pub loop-seen-preserved : goal.loop-seen-preserved
loop-seen-preserved g c = record {
  within = omega arith;
  count = omega (
    arith,
    c.loop-seen.invariant.count,
    vector_passes (g.K.Kind.has c.args.kind.now) c.args.bytes.now c.loop-seen.seen 16 c.run-run.result
        (omega arith) c.run-run.ensures c.if-run-lt-LANES.false,
  );
}

pub returns-clause-count : goal.returns-clause-count
returns-clause-count g c = last_vector (g.K.Kind.has c.args.kind.now) c.args.bytes.now 16 c.loop-seen.seen c.run.result
    (omega arith) (omega arith) c.loop-seen.invariant.count c.run.ensures
