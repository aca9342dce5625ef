use Rattle.std.proofs.Common.{◌≤◌, ◌≡◌, ◌++◌, List, ℕ, length}
use Rattle.std.specs.Io.KnownBytes.{Appends}
use Rattle.xf_run.proofs.output.write_lines.Given as goal

abbrev pub invariant-lines : goal.invariant-lines
invariant-lines g l = record {
  text : (front : List ℕ) × (front ++ l.rest ≡ l.text) × Appends (g.K.Sink.text l.fn.out) (g.K.Sink.text l.out) front;
  later : g.K.Sink.faults l.fn.out ≤ g.K.Sink.faults l.out;
}

abbrev pub decreases-lines : goal.decreases-lines
decreases-lines g l = length l.rest
