-- The states of a machine, each held with its own part.
use Rattle.std.specs.Prelude.{◌≡◌, ℕ, Bool, List, [], ◌∷◌, ◌++◌, map, zip, Option, None, Some, slice_get}
use Rattle.xf_types.specs.declared.state.Sa.{Sa}
use Rattle.xf_types.specs.Machine.{Own}
use Rattle.xf_types.specs.PolicyList.{without}
use Rattle.xf_types.specs.StateList.{has_sid, changed}
use Rattle.xf_types.specs.declared.call.Reply.{Reply}
use Rattle.xf_types.specs.OwnParts.{new_own, own_without, own_of, own_put}
use Rattle.xf_types.specs.OneState.{dying_if}
use Rattle.xf_types.specs.TrafficRules.{Fate, Same, Ends, Becomes, Treated}
use Rattle.xf_types.specs.TickRules.{state_ends, state_later, own_part}
use Rattle.xf_held.specs.View.{HeldView, held, own_shown}
use Rattle.xf_replay.specs.declared.own.Own.{Own as OwnPart}

-- the states and their own parts, in one order
pub record TableView : Type 0 where
  pub states : List Sa
  pub own : List Own

-- the two lists of what is held
abbrev pub table_of : List HeldView → TableView
table_of hs = record { states = map (λ h. h.state) hs; own = map (λ h. h.own) hs }

-- the states that pass the test leave with their own parts
abbrev pub table_without : (Sa → Bool) → TableView → TableView
table_without leaves t = record { states = without leaves t.states; own = own_without leaves t.states t.own }

-- one more goes last
abbrev pub table_with : HeldView → TableView → TableView
table_with h t = record { states = t.states ++ h.state ∷ []; own = t.own ++ h.own ∷ [] }

-- the record of the state with this state id is changed
abbrev pub table_changed : ℕ → (Sa → Sa) → TableView → TableView
table_changed sid change t = record { states = changed sid change t.states; own = t.own }

-- the table after the fate of one of its states
abbrev pub table_put : TableView → Sa → Fate → TableView
table_put t x Same = t
table_put t x Ends = table_without (has_sid x.sid) t
table_put t x (Becomes soft own) =
    record { states = changed x.sid (dying_if soft) t.states; own = own_put x.sid own t.states t.own }

-- the state at a place, where there is a place
abbrev pub state_at : List Sa → Option ℕ → Option Sa
state_at states None = None
state_at states (Some place) = slice_get states place

-- the own part of a listed state
abbrev pub own_in_table : TableView → Sa → Own
own_in_table t s = own_of s.sid t.states t.own (new_own s.spec)

-- the reply and the table afterwards are those of a rule for one of the states
pub record Puts (reply : Reply) (old new : TableView) (s : Sa) (rule : Treated) : Type 0 where
  pub is_reply : reply ≡ rule.reply
  pub is_put : new ≡ table_put old s rule.fate

-- of what is held, the state beside its own part
abbrev pub pair_of : HeldView → Sa × Own
pair_of h = (h.state, h.own)

-- what is held, at a later time
abbrev pub held_later : ℕ → HeldView → HeldView
held_later now h = held (state_later now (pair_of h)) h.own

-- the table at a later time: the states that stay
abbrev pub table_later : ℕ → TableView → TableView
table_later now t =
    let stay = without (state_ends now) (zip t.states t.own) in
    record { states = map (state_later now) stay; own = map own_part stay }

-- the states with these records and own parts
abbrev pub zipped : List Sa → List OwnPart → List HeldView
zipped states [] = []
zipped [] (o ∷ own) = []
zipped (s ∷ states) (o ∷ own) = held s (own_shown o) ∷ zipped states own
