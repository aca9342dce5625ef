use Rattle.xf_types.proofs.SameFields.{any_facts}
use Rattle.xf_plain.proofs.plain.flows.with_seq.Goals as goal

pub returns : goal.returns
returns c = any_facts (record c.args.spec { seq = c.args.seq }) _
