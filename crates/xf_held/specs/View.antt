-- One state with its own part.
use Rattle.std.specs.Prelude.{◌≡◌, ◌≤◌, ℕ, Bool, true, false}
use Rattle.xf_types.specs.declared.state.Sa.{Sa}
use Rattle.xf_types.specs.declared.state.SaSpec.{SaSpec}
use Rattle.xf_types.specs.Machine.{Own}
use Rattle.xf_types.specs.OwnParts.{new_own}
use Rattle.xf_types.specs.OneState.{dying_if}
use Rattle.xf_types.specs.TrafficRules.{Fate, Same, Ends, Becomes, last_number}
use Rattle.xf_replay.specs.declared.own.Own.{Own as OwnPart}

-- a state with its own part
pub record HeldView : Type 0 where
  pub state : Sa
  pub own : Own

-- from its two parts
abbrev pub held : Sa → Own → HeldView
held s o = record { state = s; own = o }

-- an own part as the machine has it: the window tells the accepted numbers
abbrev pub own_shown : OwnPart → Own
own_shown o =
    record { accepted = o.window.accepted; sent = o.out; packets = o.packets; bytes = o.bytes; first_use = o.first }

-- an own part fits the record: the window has the record's size, and no greater number was sent than may be
pub record FitsRecord (s : Sa) (o : OwnPart) : Type 0 where
  pub window : o.window.size ≡ s.spec.window
  pub sent : o.out ≤ last_number s

-- a new record of a state with numbers of the same kind
pub record KeepsNumbers (old new : Sa) : Type 0 where
  pub window : new.spec.window ≡ old.spec.window
  pub esn : new.spec.esn ≡ old.spec.esn

-- a new state in use, with the own part that it begins with
abbrev pub new_held : ℕ → ℕ → SaSpec → HeldView
new_held sid added spec =
    held (record { sid = sid; added = added; larval = false; dying = false; spec = spec }) (new_own spec)

-- a new larval state, with the same own part
abbrev pub new_larval : ℕ → ℕ → SaSpec → HeldView
new_larval sid added spec =
    held (record { sid = sid; added = added; larval = true; dying = false; spec = spec }) (new_own spec)

-- a state with its own part after its fate; one that ends leaves the list as it was
abbrev pub fated : HeldView → Fate → HeldView
fated h Same = h
fated h Ends = h
fated h (Becomes soft own) = held (dying_if soft h.state) own

-- the state ends
abbrev pub is_end : Fate → Bool
is_end Same = false
is_end Ends = true
is_end (Becomes soft own) = false
