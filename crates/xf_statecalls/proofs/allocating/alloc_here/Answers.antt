use Rattle.xf_statecalls.proofs.allocating.alloc_here.Goals as goal

pub returns-clause-hidden : goal.returns-clause-hidden
returns-clause-hidden g c = g.met.D.Parts.kept_hidden c.alloc_spi.new.c c.args.parts.now c.alloc_spi.ensures.rest

pub returns-clause-beside : goal.returns-clause-beside
returns-clause-beside g c = g.met.D.Parts.kept c.alloc_spi.new.c c.args.parts.now c.alloc_spi.ensures.rest

pub returns-clause-reply : goal.returns-clause-reply
returns-clause-reply g c = λ s es at st fits. c.alloc_spi.ensures.reply s es at st fits

pub returns-clause-comes : goal.returns-clause-comes
returns-clause-comes g c = λ s es at st fits. c.alloc_spi.ensures.stands s es at st fits

pub returns-clause-pool : goal.returns-clause-pool
returns-clause-pool g c = λ s es lasts at st fits. c.alloc_spi.ensures.pool s es lasts at st fits
