use Rattle.std.proofs.Common.{◌≡◌, ◌+◌, ◌-◌, ◌≤◌, ℕ, List, ap, ◌∙◌, get_or, [], length, map, arith}
use Rattle.std.specs.Prelude.{sum}
use Rattle.xf_types.specs.Batch.{Line, calls_of_thread}
use Rattle.xf_batch.specs.Generated.{generated}
use Rattle.xf_batch.specs.Shown.{threads_shown}
use Rattle.xf_run.proofs.Generating.{gen_none, gen_next, gen_all}
use Rattle.xf_run.proofs.Lengths.{first_few}
use Rattle.xf_run.proofs.generated.count_input.Goals as goal

pub phases-init : goal.phases-init
phases-init c = record {
  so_far = rw (c.in_ok-machine.ensures) (gen_none c.args.seed c.new-tally.result c.new-tally.ensures.summary);
  first = omega arith;
  lines = omega (arith, c.new-tally.ensures.no_lines);
  calls = omega (arith, c.new-tally.ensures.no_calls);
  numbers = rw (c.in_ok-machine.ensures) (omega arith);
  sids = rw (c.in_ok-machine.ensures) (omega arith);
}

pub phases-preserved : goal.phases-preserved
phases-preserved c =
    let seed = c.args.seed in
    let phase = c.phases.phase in
    let threads = threads_shown c.in_ok-made.made.threads.items in
    let lines = get_or threads 0 [] in
    let next : phase + 1 - 1 ≡ (phase - 1) + 1 = omega (arith, c.phases.invariant.first) in
    let number : phase ≡ 1 + (phase - 1) = omega (arith, c.phases.invariant.first) in
    let made : lines ≡ calls_of_thread 1 (generated seed (1 + (phase - 1))) 0 =
    ap (λ (ts : List (List Line)). get_or ts 0 []) c.in_ok-made.ensures.threads
    ∙ ap (λ (k : ℕ). calls_of_thread 1 (generated seed k) 0) number
    in
    let few : length lines ≤ sum (map length threads) = first_few threads in
    record {
      so_far =
          rw (next)
          (gen_next seed (phase - 1) c.phases.machine c.count_phase.new.machine c.phases.refused c.in_ok-refusal.refusal
          c.phases.tally c.count_phase.new.tally lines made c.phases.invariant.so_far c.in_ok-refusal.ensures.ok);
      first = omega arith;
      lines =
          omega (arith, c.in_ok-refusal.ensures.ok.lines, few, c.in_ok-made.ensures.small, c.phases.invariant.lines, c.phases.invariant.first);
      calls = omega (arith, c.in_ok-refusal.ensures.calls, c.phases.invariant.calls, c.phases.invariant.first);
      numbers =
          omega (arith, c.in_ok-refusal.ensures.grows.numbers, c.phases.invariant.numbers, c.phases.invariant.first);
      sids = omega (arith, c.in_ok-refusal.ensures.grows.sids, c.phases.invariant.sids, c.phases.invariant.first);
    }

pub returns : goal.returns
returns c =
    let all : c.phases.phase - 1 ≡ 4 = omega arith in
    gen_all c.args.seed c.phases.machine c.phases.refused c.phases.tally (rw (all) at c.phases.invariant.so_far)
