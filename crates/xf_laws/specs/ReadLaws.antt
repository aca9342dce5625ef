-- What a call reads: what is shown, of the own parts no more than that of the state that it is for, and where time passes the first
-- uses alone.
use Rattle.std.specs.Prelude.{◌≡◌, List, All, IfSome}
use Rattle.std.specs.List.{AllZip}
use Rattle.xf_types.specs.declared.call.Call.{Call}
use Rattle.xf_types.specs.declared.call.Call.TheVariants as call
use Rattle.xf_types.specs.Machine.{Shown, Own}
use Rattle.xf_types.specs.OwnParts.{own_in}
use Rattle.xf_types.specs.Steps.{step, rule_of}
use Rattle.xf_types.specs.Moves.{state_found}
use Rattle.xf_types.specs.IsMachine.{IsMachine}
use Rattle.xf_laws.specs.StepLaws.{beside}

-- each state was first used at the same time by the one list and by the other, or by neither
abbrev pub AreUsedAlike : List Own → List Own → Type 0
AreUsedAlike a b = AllZip (λ o p. o.first_use ≡ p.first_use) a b

-- beside what is shown, two lists of own parts tell a call the same: the passing of time by the first uses, each other call by the
-- own part of the state that it is for
abbrev pub TellTheSame : Shown → List Own → List Own → Call → Type 0
TellTheSame s a b (call.Tick given) = AreUsedAlike a b
TellTheSame s a b other = IfSome (state_found (rule_of s other)) (λ x. own_in (beside s a) x ≡ own_in (beside s b) x)

-- two machines that show the same, and whose own parts tell the call the same
pub record ReadLaws : Type 0 where
  -- give the same reply
  pub reply : (s : Shown) (a b : List Own) (c : Call) → TellTheSame s a b c
      → (step (beside s a) c).reply ≡ (step (beside s b) c).reply
  -- show the same afterwards
  pub shown : (s : Shown) (a b : List Own) (c : Call) → TellTheSame s a b c
      → (step (beside s a) c).machine.shown ≡ (step (beside s b) c).machine.shown
  -- and leave the state that the call is for the same own part
  pub own : (s : Shown) (a b : List Own) (c : Call) → IsMachine (beside s a) → IsMachine (beside s b) → TellTheSame s a b c
      → IfSome (state_found (rule_of s c)) (λ x. own_in (step (beside s a) c).machine x ≡ own_in (step (beside s b) c).machine x)
  -- where each state's own part says the same of its first use, the states were used alike
  pub uses : (s : Shown) (a b : List Own) → IsMachine (beside s a) → IsMachine (beside s b)
      → All (λ x. (own_in (beside s a) x).first_use ≡ (own_in (beside s b) x).first_use) s.states → AreUsedAlike a b
