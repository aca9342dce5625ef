-- A machine from its parts.
use Rattle.std.specs.Prelude.{◌≡◌, ℕ, ◌≤◌, [], true, Option, None, Some, is_some, length, map, vec_capacity}
use Rattle.std.specs.List.{AllZip}
use Rattle.xf_types.specs.IsMachine.{IsShownPart}
use Rattle.xf_types.specs.Machine.{Machine, Shown}
use Rattle.xf_held.specs.View.{FitsRecord, own_shown}
use Rattle.xf_plain.specs.declared.plain.parts.PlainParts.{PlainParts}

-- the threshold that is given
abbrev pub given : Option (ℕ × ℕ) → ℕ × ℕ
given None = (0, 0)
given (Some lens) = lens

-- what is shown of the machine with these parts
abbrev pub shown_of : PlainParts → Shown
shown_of p = record {
  policies = p.policies.items;
  states = p.states.items;
  next_index = p.next_index;
  next_seq = p.next_seq;
  next_sid = p.next_sid;
  next_number = p.next_number;
  hthresh4 = given p.thresholds.v4;
  hthresh6 = given p.thresholds.v6;
  time = p.now;
  max_policies = p.max_policies;
  max_states = p.max_states;
}

-- the machine with these parts
abbrev pub machine_of : PlainParts → Machine
machine_of p = record { shown = shown_of p; own = map own_shown p.own.items }

-- the shown part is one that a run may reach, each own part fits its state, both thresholds are given, and the room holds the states
pub record AreParts (p : PlainParts) : Type 0 where
  pub shown : IsShownPart (shown_of p)
  pub own : AllZip FitsRecord p.states.items p.own.items
  pub thresholds4 : is_some p.thresholds.v4 ≡ true
  pub thresholds6 : is_some p.thresholds.v6 ≡ true
  pub room_is_empty : p.room.items ≡ []
  pub room : length p.states.items ≤ vec_capacity p.room
