use Rattle.xf_cells.proofs.FreeLemmas.{slot_given}
use Rattle.std.proofs.Common.{rules}
use Rattle.xf_cells.proofs.free_pool.FreePoolPool.take.Goals as goal

pub returns-clause-slot : goal.returns-clause-slot
returns-clause-slot c = slot_given _ _ _ (search rules) (search rules) c.args.self.now.free
