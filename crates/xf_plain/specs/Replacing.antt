-- A policy that takes the place of the one that is the same.
use Rattle.std.specs.Prelude.{ℕ}
use Rattle.xf_types.specs.declared.policy.PolicySpec.{PolicySpec}
use Rattle.xf_types.specs.declared.call.Reply.TheVariants.{DoneIndex}
use Rattle.xf_types.specs.Changes.{Answer, answer, InPlace}
use Rattle.xf_types.specs.Machine.{Shown}
use Rattle.xf_types.specs.PolicyList.{is_same, without}
use Rattle.xf_types.specs.PolicyRules.{with_policy}

-- the one that is the same leaves, and the new one has its index
abbrev pub replaced : Shown → PolicySpec → ℕ → Answer
replaced s spec index =
    answer (DoneIndex index) (InPlace (with_policy s spec index (without (λ p. is_same p.spec spec) s.policies)))
