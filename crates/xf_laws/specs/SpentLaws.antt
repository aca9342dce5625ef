-- What is gone stays gone: a state id or a policy's number that was given and isn't listed is never listed again.
use Rattle.std.specs.Prelude.{◌≡◌, ℕ, false, ◌<◌, List, [], ◌∷◌}
use Rattle.xf_types.specs.declared.call.Call.{Call}
use Rattle.xf_types.specs.declared.call.Receipt.{Receipt}
use Rattle.xf_types.specs.Machine.{Machine}
use Rattle.xf_types.specs.Steps.{step}
use Rattle.xf_types.specs.History.{Moment, moment_of}
use Rattle.xf_types.specs.IsMachine.{IsMachine}
use Rattle.xf_laws.specs.LeaveLaws.{is_listed}
use Rattle.xf_laws.specs.NewLaws.{is_numbered}

-- the state id was given, and no listed state has it
pub record IsSpentSid (m : Machine) (sid : ℕ) : Type 0 where
  pub given : sid < m.shown.next_sid
  pub gone : is_listed sid m.shown.states ≡ false

-- the number was given, and no listed policy has it
pub record IsSpentNumber (m : Machine) (number : ℕ) : Type 0 where
  pub given : number < m.shown.next_number
  pub gone : is_numbered number m.shown.policies ≡ false

-- the machine after these calls, one after another
abbrev pub after_calls : Machine → List Call → Machine
after_calls m [] = m
after_calls m (c ∷ cs) = after_calls (step m c).machine cs

pub record SpentLaws : Type 0 where
  -- each list of calls
  pub sid_calls : (m : Machine) (cs : List Call) (sid : ℕ) → IsMachine m → IsSpentSid m sid → IsSpentSid (after_calls m cs) sid
  pub number_calls : (m : Machine) (cs : List Call) (number : ℕ) → IsMachine m → IsSpentNumber m number
      → IsSpentNumber (after_calls m cs) number
  -- and each list of receipts, whatever they say, from any moment on
  pub sid_receipts : (t : Moment) (history : List Receipt) (sid : ℕ) → IsMachine t.machine → IsSpentSid t.machine sid
      → IsSpentSid (moment_of t history).machine sid
  pub number_receipts : (t : Moment) (history : List Receipt) (number : ℕ) → IsMachine t.machine → IsSpentNumber t.machine number
      → IsSpentNumber (moment_of t history).machine number
