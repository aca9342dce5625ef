-- The window keeps the size that it was made with.
use Rattle.std.proofs.Common.{◌≡◌}
use Rattle.xf_replay.proofs.tests.window_after.Given as goal

abbrev pub invariant-loop-n : goal.invariant-loop-n
invariant-loop-n g l = l.window.size ≡ l.size
