use Rattle.std.proofs.Common.{◌∙◌}
use Rattle.xf_spd.proofs.Pools.{pool_removed}
use Rattle.xf_image.proofs.Listed.{listed_is}
use Rattle.xf_spd.proofs.Removed.{entry_cut}
use Rattle.xf_spd.proofs.spd.Spd.remove_entry.Goals as goal

pub returns-clause-pool : goal.returns-clause-pool
returns-clause-pool g c = λ s es lasts is stands fits.
    let a = c.args.self.now.area in
    let f = c.args.entry.now in
    let cut = entry_cut a (g.C.Cells.words c.args.c.now) s es f.slot f.policy is stands in
    pool_removed _ _ _ _ _ f.slot _ _ _ _ _ _ _ cut.front cut.back c.give.ensures.capacity fits
    (record { less = c.give.ensures.taken; gives_ = c.give.ensures.gives; takes_ = c.give.ensures.takes }) lasts cut.below cut.miss
    (listed_is a (g.C.Cells.words c.args.c.now) s es stands.list ∙ cut.whole)
    (listed_is a (g.C.Cells.words c.delist.new.c) _ _ (c.delist.ensures.delists s es is stands).list ∙ cut.left)
