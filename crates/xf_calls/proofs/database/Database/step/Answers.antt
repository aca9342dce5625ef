use Rattle.xf_calls.proofs.Stepped.{grows}
use Rattle.xf_calls.proofs.database.Database.step.Goals as goal

pub returns-clause-grows : goal.returns-clause-grows
returns-clause-grows c = grows c.args.self.now c.answered.new.self c.args.call.now c.answered.result c.answered.ensures
