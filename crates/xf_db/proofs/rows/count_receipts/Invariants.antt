use Rattle.std.proofs.Common.{◌≡◌, take}
use Rattle.xf_db.specs.Closing.{total}
use Rattle.xf_db.proofs.rows.count_receipts.Given as goal

abbrev pub invariant-loop-pass : goal.invariant-loop-pass
invariant-loop-pass l = l.count ≡ total (take l.pass-index l.passes)
