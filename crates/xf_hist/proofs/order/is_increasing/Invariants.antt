use Rattle.std.proofs.Common.{ℕ, suc, ◌<◌, get_or}
use Rattle.xf_types.specs.declared.call.Receipt.{Receipt}
use Rattle.xf_hist.proofs.order.is_increasing.Given as goal

-- the numbers so far increase
abbrev pub invariant-loop-place : goal.invariant-loop-place
invariant-loop-place l = (k : ℕ) (d : Receipt) → suc k < l.place → (get_or l.list k d).number < (get_or l.list (suc k) d).number
