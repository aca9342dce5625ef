use Rattle.std.proofs.Common.{◌≤◌, ◌+◌, inl, inr, length, get_or, map, [], arith, sym, ◌∙◌}
use Rattle.std.specs.Prelude.{sum}
use Rattle.std.proofs.lemmas.Result.{err_from_is_err_and}
use Rattle.xf_batch.specs.Shown.{threads_shown}
use Rattle.xf_run.proofs.Counting.{counted_fails, counted_none, counted_some}
use Rattle.xf_run.proofs.Lengths.{first_few}
use Rattle.xf_run.proofs.check.count_batch.Goals as goal

pub phases-init : goal.phases-init
phases-init g c = record {
  so_far = counted_none (g.S.Source.left c.args.src.now) c.args.reader.unread c.requires.fresh;
  few_phases = omega arith;
  few_lines = omega arith;
  whole = λ e. absurd (cc e);
  end = λ e. absurd (cc (e, c.requires.fresh.ended));
  read = omega arith;
}

pub returns-in_err-phase-clause-counts : goal.returns-in_err-phase-clause-counts
returns-in_err-phase-clause-counts g c =
    let p = err_from_is_err_and c.from_residual.result c.from_residual.ensures.1 in
    rw (p.1, p.2)
    (counted_fails (g.S.Source.left c.args.src.now) (g.S.Source.left c.phases.src) (g.S.Source.left c.read_phase.new.src)
    (g.S.Source.faults c.phases.src) (g.S.Source.faults c.read_phase.new.src)
    c.phases.reader.unread c.phases.phases c.phases.lines c.in_err-phase.field-0.0 (rw (c.phases-test.true) at c.phases.invariant.so_far)
    c.in_err-phase.ensures.phase)

pub phases-preserved : goal.phases-preserved
phases-preserved g c =
    let passed = c.in_ok-phase.ensures.passed in
    let threads = threads_shown c.in_ok-phase.phase.threads.items in
    let all : length (get_or threads 0 []) ≤ sum (map length threads) = first_few threads in
    let lines : c.count_lines-count.result ≤ sum (map length threads) = omega (arith, all, c.count_lines-count.ensures) in
    let phases : c.phases.phases + c.counted-phases.result ≤ c.in_ok-phase.rest.unread.before =
    elim c.counted-phases.ensures.few [
      | inl none ↦ omega (arith, none, passed.few, c.phases.invariant.few_phases)
      | inr (inl on) ↦ omega (arith, passed.further on, c.counted-phases.ensures.most, c.phases.invariant.few_phases)
      | inr (inr some) ↦ omega (arith, some, lines, passed.few, c.counted-phases.ensures.most, c.phases.invariant.few_phases)
    ]
    in
    record {
      so_far =
          rw (c.counted-phases.ensures.count)
          (counted_some _ _ _ _ _ c.phases.reader.unread c.in_ok-phase.phase c.in_ok-phase.rest c.more-more.result c.phases.phases
          c.phases.lines c.count_lines-count.result (rw (c.phases-test.true) at c.phases.invariant.so_far)
          c.in_ok-phase.ensures.phase c.more-more.ensures.more passed c.count_lines-count.ensures);
      few_phases = phases;
      few_lines = omega (arith, lines, passed.few, c.phases.invariant.few_lines);
      whole = λ e. passed.whole.0 (sym c.more-more.ensures.more ∙ e);
      end = c.in_ok-phase.ensures.end c.phases.invariant.end;
      read = omega (arith, c.in_ok-phase.ensures.later, c.phases.invariant.read);
    }
