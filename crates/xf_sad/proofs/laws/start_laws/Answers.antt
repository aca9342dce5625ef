use Rattle.xf_sad.proofs.Begins.{empty_at}
use Rattle.xf_sad.proofs.laws.start_laws.Goals as goal

pub returns : goal.returns
returns c = λ max_policies few. empty_at max_policies c.args.sad.now.area.slots few c.args.sad.now.facts.most
