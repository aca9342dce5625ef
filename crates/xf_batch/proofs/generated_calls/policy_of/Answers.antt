-- The parts of the policy are those of the definition.
use Rattle.xf_batch.proofs.generated_calls.policy_of.Goals as goal

pub returns : goal.returns
returns c = rw (c.selector_of.ensures, c.none.ensures, c.templates_of.ensures)
