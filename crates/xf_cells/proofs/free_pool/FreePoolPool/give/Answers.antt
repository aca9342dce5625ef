use Rattle.xf_cells.proofs.FreeLemmas.{all_returned, still_within}
use Rattle.xf_cells.proofs.free_pool.FreePoolPool.give.Goals as goal

pub invariant_of-self-clause-within : goal.invariant_of-self-clause-within
invariant_of-self-clause-within c = still_within _ _ _ c.args.self.now.within

pub invariant_of-self-clause-free : goal.invariant_of-self-clause-free
invariant_of-self-clause-free c = all_returned _ _ _ c.args.self.now.within c.args.self.now.free c.requires
