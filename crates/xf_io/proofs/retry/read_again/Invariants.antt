use Rattle.std.specs.Io.KnownBytes.{Keeps}
use Rattle.xf_io.proofs.retry.read_again.Given as goal

-- an interrupted read gave nothing
abbrev pub invariant-loop : goal.invariant-loop
invariant-loop g l = Keeps (g.R.Read.remaining l.fn.inner) (g.R.Read.remaining l.inner)
