use Rattle.std.proofs.Common.{◌≤◌, ◌+◌, ◌-◌, ◌*◌}
use Rattle.xf_run.proofs.Generating.{GenSoFar}
use Rattle.xf_run.proofs.generated.count_input.Given as goal

abbrev pub invariant-phases : goal.invariant-phases
invariant-phases l = record {
  so_far : GenSoFar l.seed (l.phase - 1) l.machine l.refused l.tally;
  first : 1 ≤ l.phase;
  lines : l.tally.lines ≤ 6004 * (l.phase - 1);
  calls : l.tally.calls ≤ 42028 * (l.phase - 1);
  numbers : l.machine.shown.next_number ≤ 42028 * (l.phase - 1) + 1;
  sids : l.machine.shown.next_sid ≤ 42028 * (l.phase - 1) + 1;
}
