use Rattle.xf_spd.proofs.Begins.{empty_at}
use Rattle.xf_spd.proofs.laws.start_laws.Goals as goal

pub returns : goal.returns
returns c = λ max_states less. empty_at c.args.spd.now.area.slots max_states c.args.spd.now.facts.most less
