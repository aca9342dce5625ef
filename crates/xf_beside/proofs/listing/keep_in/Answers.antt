use Rattle.std.proofs.Common.{◌≡◌, [], ◌∷◌, ◌++◌, Some, filter, subst}
use Rattle.std.specs.Prelude.{OnOk}
use Rattle.xf_types.specs.declared.policy.Policy.{Policy}
use Rattle.xf_types.specs.PolicyList.{policy_meets}
use Rattle.xf_beside.proofs.listing.keep_in.Goals as goal

same_policy : (p q : Policy) → Some p ≡ Some q → p ≡ q
same_policy p q e = cc

pub returns-in-Some-clause-keeps : goal.returns-in-Some-clause-keeps
returns-in-Some-clause-keeps g c = λ s front back p st.
    subst (λ (q : Policy). OnOk c.keep.result (c.keep.new.found.items ≡ c.args.found.now.items ++ filter (policy_meets c.args.wanted.now) (q ∷ [])))
    (same_policy c.in-Some.policy p (c.in-Some.ensures.answer s front back p st)) c.keep.ensures
