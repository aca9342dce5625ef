use Rattle.std.proofs.Common.{ℕ, ap, ◌∙◌}
use Rattle.xf_records.specs.Policies.{policy_at}
use Rattle.xf_listing.proofs.listing.Listing.policy_in.Goals as goal

pub returns-clause-answer : goal.returns-clause-answer
returns-clause-answer g c = λ image h. c.get_policy.ensures.answer image h ∙ ap (λ (at : ℕ). policy_at image at) c.record.ensures.is
