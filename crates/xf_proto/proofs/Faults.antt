-- What the answer of a step says of its row.
use Rattle.std.proofs.Common.{◌≡◌, ℕ, Some, None, Option, refl, sym, ap, ◌∙◌}
use Rattle.std.specs.Prelude.{Result, Err}
use Rattle.xf_proto.specs.declared.step.StepFault.{StepFault}
use Rattle.xf_proto.specs.declared.step.StepFault.TheVariants as fault
use Rattle.xf_proto.specs.ProtocolState.{ProtocolState}
use Rattle.xf_proto.specs.Runs.{place_of_fault}

module _ (answer : Result Unit StepFault) (f : StepFault) (at : ℕ) (is : answer ≡ Err f) where
  pub at_first : f ≡ fault.Illegal at → place_of_fault f ≡ 0 → answer ≡ Err (fault.Illegal 0)
  at_first same one = is ∙ ap Err (same ∙ ap fault.Illegal (sym (ap place_of_fault same) ∙ one))

  pub row_there : (row : Option ProtocolState) → f ≡ fault.NoMemory at → (row ≡ None → answer ≡ Err (fault.Illegal 0)) → (q : ProtocolState) × (row ≡ Some q)
  row_there None same none = let other : answer ≡ Err (fault.Illegal 0) = none refl in absurd (cc)
  row_there (Some q) same none = (q, refl)
