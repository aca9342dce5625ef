-- What a call lists anew: a state or a policy with an id or a number that none listed before it had.
use Rattle.std.specs.Prelude.{◌≡◌, ℕ, Bool, false, ◌==◌, List, Contains}
use Rattle.std.specs.List.{list_any}
use Rattle.xf_types.specs.declared.policy.Policy.{Policy}
use Rattle.xf_types.specs.declared.state.Sa.{Sa}
use Rattle.xf_types.specs.declared.call.Call.{Call}
use Rattle.xf_types.specs.Machine.{Machine, Shown, Own}
use Rattle.xf_types.specs.OwnParts.{new_own, own_of}
use Rattle.xf_types.specs.Steps.{step}
use Rattle.xf_types.specs.IsMachine.{IsMachine}
use Rattle.xf_laws.specs.LeaveLaws.{is_listed}

-- a policy with this number is listed
abbrev pub is_numbered : ℕ → List Policy → Bool
is_numbered number policies = list_any (λ p. p.number == number) policies

-- the state is new after what was shown: it has the next state id, was added now, and is not dying
pub record IsNewState (s : Shown) (x : Sa) : Type 0 where
  pub sid : x.sid ≡ s.next_sid
  pub dying : x.dying ≡ false
  pub added : x.added ≡ s.time

-- the policy is new after what was shown: it has the next number, was added now, and is not soft
pub record IsNewPolicy (s : Shown) (p : Policy) : Type 0 where
  pub number : p.number ≡ s.next_number
  pub soft : p.soft ≡ false
  pub added : p.added ≡ s.time

pub record NewLaws : Type 0 where
  pub state : (m : Machine) (c : Call) (x : Sa) → IsMachine m → Contains (step m c).machine.shown.states x
      → is_listed x.sid m.shown.states ≡ false → IsNewState m.shown x
  -- at its place stands what its record has it begin with
  pub own : (m : Machine) (c : Call) (x : Sa) (none : Own) → IsMachine m → Contains (step m c).machine.shown.states x
      → is_listed x.sid m.shown.states ≡ false
      → own_of x.sid (step m c).machine.shown.states (step m c).machine.own none ≡ new_own x.spec
  pub policy : (m : Machine) (c : Call) (p : Policy) → IsMachine m → Contains (step m c).machine.shown.policies p
      → is_numbered p.number m.shown.policies ≡ false → IsNewPolicy m.shown p
