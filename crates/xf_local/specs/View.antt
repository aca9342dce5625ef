-- One state's changing part, as contracts see it.
use Rattle.std.specs.Prelude.{ℕ, Bool, true, false, List, Option, None, Some, if◌then◌else◌}
use Rattle.xf_types.specs.declared.call.Event.{Event}
use Rattle.xf_types.specs.declared.state.Sa.{Sa}
use Rattle.xf_types.specs.Machine.{Own}
use Rattle.xf_types.specs.Lifetime.{Verdict, by_time}
use Rattle.xf_types.specs.OwnParts.{new_own}
use Rattle.xf_types.specs.TickRules.{state_ends, state_event, state_later}
use Rattle.xf_held.specs.View.{FitsRecord, KeepsNumbers}
use Rattle.xf_replay.specs.declared.own.Own.{Own as OwnPart}
use Rattle.xf_types.specs.Standing.{Standing, Nothing, OneState}

-- a state's record with its own part, and the time
pub record LiveView : Type 0 where
  pub state : Sa
  pub own : Own
  pub time : ℕ

-- a state that is listed, or one that isn't
pub data LocalView : Type 0 where
  Dead : LocalView
  Live : (l : LiveView) → LocalView

-- the state is listed
abbrev pub is_live : LocalView → Bool
is_live Dead = false
is_live (Live l) = true

-- a state that accepted these numbers, sent those that its record says, and carried nothing yet
abbrev pub new_live : Sa → List ℕ → ℕ → LiveView
new_live s accepted time = record { state = s; own = record (new_own s.spec) { accepted = accepted }; time = time }

-- with another record
abbrev pub renewed : Sa → LocalView → LocalView
renewed s Dead = Dead
renewed s (Live l) = Live (record l { state = s })

-- at another time
abbrev pub at_time : ℕ → LocalView → LocalView
at_time now Dead = Dead
at_time now (Live l) = Live (record l { time = now })

-- a listed state may have this record: its numbers stay of one kind
abbrev pub MayHave : LocalView → Sa → Type 0
MayHave Dead s = ⊥
MayHave (Live l) s = KeepsNumbers l.state s

-- the own part of a listed state
abbrev pub own_part : LocalView → Option Own
own_part Dead = None
own_part (Live l) = Some l.own

-- an own part of a listed state fits its record
abbrev pub FitsValue : LocalView → OwnPart → Type 0
FitsValue Dead own = ⊥
FitsValue (Live l) own = FitsRecord l.state own

-- a listed state that stays, at a later time
abbrev pub live_later : ℕ → LiveView → LiveView
live_later now l = record l { state = state_later now (l.state, l.own); time = now }

-- at a later time: a state that time ends isn't listed any more
abbrev pub aged : ℕ → LocalView → LocalView
aged now Dead = Dead
aged now (Live l) = if state_ends now (l.state, l.own) then Dead else Live (live_later now l)

-- what is reported of a listed state at a time
abbrev pub event_of : ℕ → LocalView → Option Event
event_of now Dead = None
event_of now (Live l) = state_event now (l.state, l.own)

-- what the limits of time and use say of a listed state
abbrev pub due_of : LocalView → Option Verdict
due_of Dead = None
due_of (Live l) = Some (by_time l.state.spec.limits l.state.added l.own.first_use l.time)

-- what the value stands for
abbrev pub standing_of : LocalView → Standing
standing_of Dead = Nothing
standing_of (Live l) = OneState l.state l.time l.own
