use Rattle.xf_statecalls.proofs.adding.add_here.Goals as goal

pub returns-clause-hidden : goal.returns-clause-hidden
returns-clause-hidden g c = g.met.D.Parts.kept_hidden c.add.new.c c.args.parts.now c.add.ensures.rest

pub returns-clause-beside : goal.returns-clause-beside
returns-clause-beside g c = g.met.D.Parts.kept c.add.new.c c.args.parts.now c.add.ensures.rest

pub returns-clause-reply : goal.returns-clause-reply
returns-clause-reply g c = λ s es at st fits. c.add.ensures.reply s es at st fits

pub returns-clause-comes : goal.returns-clause-comes
returns-clause-comes g c = λ s es at st fits. c.add.ensures.stands s es at st fits

pub returns-clause-pool : goal.returns-clause-pool
returns-clause-pool g c = λ s es lasts at st fits. c.add.ensures.pool s es lasts at st fits
