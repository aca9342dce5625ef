use Rattle.xf_plain.proofs.Asking.{contended-asked, memory-asked}
use Rattle.xf_plain.proofs.plain.Plain.try_flow.Goals as goal

pub returns-in-Answer-clause-memory : goal.returns-in-Answer-clause-memory
returns-in-Answer-clause-memory c = memory-asked c.args.self.now.shown c.args.flow.now c.in-Answer.reply c.in-Answer.ensures

pub returns-in-Answer-clause-settled : goal.returns-in-Answer-clause-settled
returns-in-Answer-clause-settled c = contended-asked c.args.self.now.shown c.args.flow.now c.in-Answer.reply c.in-Answer.ensures
