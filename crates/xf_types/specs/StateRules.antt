-- The rules of the calls on states. They read the shown part alone.
use Rattle.std.specs.Prelude.{◌≡◌, ◌≤◌, ◌<◌, ℕ, Bool, true, false, not, ◌&&◌, ◌==◌, ◌+◌, ◌-◌, nat_le, nat_lt, min, List, Option, None, Some, length, filter, find, count_by, if◌then◌else◌}
use Rattle.std.specs.List.{list_any}
use Rattle.xf_types.specs.Facts.{all_zero}
use Rattle.xf_types.specs.Counters.{upwards}
use Rattle.xf_types.specs.declared.network.Proto.{Proto}
use Rattle.xf_types.specs.declared.network.Selector.{Selector}
use Rattle.xf_types.specs.declared.state.Sa.{Sa}
use Rattle.xf_types.specs.declared.state.SaId.{SaId}
use Rattle.xf_types.specs.declared.state.SaSpec.{SaSpec}
use Rattle.xf_types.specs.declared.state.SaFilter.{SaFilter}
use Rattle.xf_types.specs.declared.state.AllocSpec.{AllocSpec}
use Rattle.xf_types.specs.declared.call.Reply.TheVariants.{DoneSid, DoneSpi, Removed, StateShown, StateList, StateCount, StateExists, NoState, Invalid, Full, NoSpi}
use Rattle.xf_types.specs.Machine.{Shown}
use Rattle.xf_types.specs.Changes.{Answer, answer, stays, InPlace, LeaveThen}
use Rattle.xf_types.specs.Same.{same_addr, same_proto, meets_one}
use Rattle.xf_types.specs.PolicyList.{without}
use Rattle.xf_types.specs.StateList.{latest_match, id_of, has_sid, changed, state_meets, larval_replaced, is_that, is_none, no_limits}

-- the state list has its capacity
abbrev pub is_full : Shown → Bool
is_full s = nat_le s.max_states (length s.states)

-- no more states fit
abbrev pub full_of_states : Shown → Answer
full_of_states s = stays (Full (length s.states) 0)

-- a state in use is added last, and these states leave; the room is that of the list with them
abbrev pub state_added_if_room : Shown → (Sa → Bool) → SaSpec → Answer
state_added_if_room s leaves spec =
    if is_full s then full_of_states s
    else answer (DoneSid s.next_sid) (LeaveThen s leaves (Some (record { spec = spec; larval = false })))

-- a state is added where the lookup found none
abbrev pub state_added_unless_found : Shown → (Sa → Bool) → SaSpec → Option Sa → Answer
state_added_unless_found s leaves spec (Some old) = stays (StateExists old.sid)
state_added_unless_found s leaves spec None = state_added_if_room s leaves spec

-- StateExists, then Full. The larval state of the same seq leaves, and is left out of the lookup
abbrev pub state_add : Shown → SaSpec → Answer
state_add s spec =
    let leaves = is_that (larval_replaced s.states spec) in
    state_added_unless_found s leaves spec (latest_match (without leaves s.states) (id_of spec))

-- a selector that is given replaces the old one
abbrev pub selector_or : Option Selector → Option Selector → Option Selector
selector_or None old = old
selector_or (Some sel) old = Some sel

-- limits and selector of the request, and not dying
abbrev pub refreshed_record : SaSpec → Sa → Sa
refreshed_record spec s =
    record s { dying = false; spec = record s.spec { limits = spec.limits; sel = selector_or spec.sel s.spec.sel } }

-- a larval state leaves for a new one, one in use is refreshed
abbrev pub state_updated : Shown → SaSpec → Option Sa → Answer
state_updated s spec None = stays NoState
state_updated s spec (Some old) =
    if old.larval then state_added_if_room s (has_sid old.sid) spec
    else
    answer (DoneSid old.sid) (InPlace (record s { states = changed old.sid (refreshed_record spec) s.states }))

-- NoState, then Full
abbrev pub state_update : Shown → SaSpec → Answer
state_update s spec = state_updated s spec (latest_match s.states (id_of spec))

-- the state that was found leaves
abbrev pub state_deleted : Shown → Option Sa → Answer
state_deleted s None = stays NoState
state_deleted s (Some old) = answer (DoneSid old.sid) (LeaveThen s (has_sid old.sid) None)

-- the latest match leaves
abbrev pub state_delete : Shown → SaId → Answer
state_delete s id = state_deleted s (latest_match s.states id)

-- the state that was found
abbrev pub state_shown : Option Sa → Answer
state_shown None = stays NoState
state_shown (Some s) = stays (StateShown s)

-- the latest match
abbrev pub state_get : Shown → SaId → Answer
state_get s id = state_shown (latest_match s.states id)

-- the states that pass the test leave
abbrev pub states_removed : Shown → (Sa → Bool) → Answer
states_removed s test = answer (Removed (count_by test s.states)) (LeaveThen s test None)

-- those that meet each condition
abbrev pub state_deleteall : Shown → SaFilter → Answer
state_deleteall s f = states_removed s (state_meets f)

-- those that meet each condition, in order
abbrev pub state_list : Shown → SaFilter → Answer
state_list s f = stays (StateList (filter (state_meets f) s.states))

-- those of a protocol, or all
abbrev pub state_flush : Shown → Option Proto → Answer
state_flush s proto = states_removed s (λ x. meets_one same_proto proto x.spec.proto)

-- how many
abbrev pub state_count : Shown → Answer
state_count s = stays (StateCount (length s.states))

-- the SPI is that of a listed state with this destination and protocol, whatever its mark
abbrev pub is_spi_taken : AllocSpec → List Sa → ℕ → Bool
is_spi_taken spec states spi =
    list_any (λ s. same_addr s.spec.dst spec.dst && same_proto s.spec.proto spec.proto && (s.spec.spi == spi)) states

-- the least free SPI of the range. Of one more candidate than there are states one is free, so no more are asked
abbrev pub free_spi : AllocSpec → List Sa → Option ℕ
free_spi spec states =
    find (λ spi. not (is_spi_taken spec states spi)) (upwards spec.min (min (spec.max + 1 - spec.min) (length states + 1)))

-- no SPI of the range that is less is free, and this one is: what the search finds
pub record IsLeastFree (spec : AllocSpec) (states : List Sa) (spi : ℕ) : Type 0 where
  pub in_range : (spec.min ≤ spi) × (spi ≤ spec.max)
  pub free : is_spi_taken spec states spi ≡ false
  pub below : (n : ℕ) → spec.min ≤ n → n < spi → is_spi_taken spec states n ≡ true

-- the larval state with this SPI
abbrev pub larval_spec : AllocSpec → ℕ → SaSpec
larval_spec spec spi =
    record {
      src = spec.src;
      dst = spec.dst;
      proto = spec.proto;
      spi = spi;
      mode = spec.mode;
      reqid = spec.reqid;
      seq = spec.seq;
      mark = spec.mark;
      if_id = 0;
      sel = None;
      window = 0;
      in_seq = 0;
      out_seq = 0;
      wildrecv = false;
      esn = false;
      limits = no_limits;
      facts = all_zero;
    }

-- NoSpi, then Full
abbrev pub allocated : Shown → AllocSpec → Option ℕ → Answer
allocated s spec None = stays NoSpi
allocated s spec (Some spi) =
    if is_full s then full_of_states s
    else
    answer (DoneSpi spi s.next_sid) (LeaveThen s is_none (Some (record { spec = larval_spec spec spi; larval = true })))

-- Invalid first
abbrev pub alloc_spi : Shown → AllocSpec → Answer
alloc_spi s spec = if nat_lt spec.max spec.min then stays Invalid else allocated s spec (free_spi spec s.states)
