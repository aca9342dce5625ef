use Rattle.std.proofs.Common.{◌≡◌, ◌≤◌, ◌+◌, take}
use Rattle.xf_run.specs.Heard.{HearsAtMost}
use Rattle.xf_run.specs.Progress.{MakesOutputs}
use Rattle.xf_run.proofs.calls.make_outputs.Given as goal

abbrev pub invariant-hops : goal.invariant-hops
invariant-hops g l = record {
  so_far : MakesOutputs l.fn.machine l.machine l.line l.len (take l.hop-index l.hops) l.refused (g.T.Teller.heard l.fn.teller) (g.T.Teller.heard l.teller);
  few_heard : HearsAtMost l.hop-index (g.T.Teller.heard l.fn.teller) (g.T.Teller.heard l.teller);
  part : l.part ≡ l.hop-index + 1;
  numbers : l.machine.shown.next_number ≤ l.fn.machine.shown.next_number + l.hop-index;
  sids : l.machine.shown.next_sid ≤ l.fn.machine.shown.next_sid + l.hop-index;
}
