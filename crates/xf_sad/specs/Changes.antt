-- What a change of the states makes of words that stand for a list.
use Rattle.std.specs.Prelude.{◌≡◌, ℕ, ◌^◌, ◌<◌, ◌==◌, Bool, false, List, [], ◌∷◌, ◌++◌, Option, None, Some, All, length}
use Rattle.xf_types.specs.declared.state.Sa.{Sa}
use Rattle.xf_types.specs.Changes.{Answer, NewState, LeaveThen, shown_after}
use Rattle.xf_types.specs.IsMachine.{IsStateList, IsInRoom, IsInRange}
use Rattle.xf_types.specs.Machine.{Shown}
use Rattle.xf_types.specs.PolicyList.{without}
use Rattle.xf_chain.specs.Lists.{Misses}
use Rattle.xf_index.specs.Indexes.{slots_in, records_in}
use Rattle.xf_sadidx.specs.declared.area.StateArea.{StateArea}
use Rattle.xf_sadimage.specs.States.{StatesStand}
use Rattle.xf_sadlist.specs.Listed.{with_state, with_states}

-- What holds of each machine that a run reaches, as far as states go, at this time.
pub record IsAt (s : Shown) (now : ℕ) : Type 0 where
  pub sid : s.next_sid < 2 ^ 63
  pub states : IsStateList s
  pub room : IsInRoom s
  pub range : IsInRange s
  pub time : s.time ≡ now

-- the slot is that one, where there is one
abbrev pub is_slot : Option ℕ → ℕ → Bool
is_slot None slot = false
is_slot (Some one) slot = slot == one

-- the entries but for that of a slot, where there is one
abbrev pub entries_but : Option ℕ → List (ℕ × Sa) → List (ℕ × Sa)
entries_but gone entries = without (λ e. is_slot gone e.0) entries

-- the record that a new state gets
abbrev pub new_state : Shown → NewState → Sa
new_state s new = record { sid = s.next_sid; added = s.time; larval = new.larval; dying = false; spec = new.spec }

-- A new state came into the slot, which the pool could give while all others stood in theirs. The one in the slot that is named left, where one is.
-- The rule says what leaves, and the words stand for what it makes.
pub record Comes (a : StateArea) (words : List ℕ) (s : Shown) (entries : List (ℕ × Sa)) (gave : ℕ → Type 0) (gone : Option ℕ) (slot : ℕ) (rule : Answer) : Type 0 where
  pub given : gave slot
  pub fresh : Misses slot (slots_in entries)
  pub shown : Shown
  pub leaves : Sa → Bool
  pub new : NewState
  pub change : rule.change ≡ LeaveThen shown leaves (Some new)
  pub tests : All (λ e. leaves e.1 ≡ is_slot gone e.0) entries
  pub stands : StatesStand a words (shown_after s rule.change) (entries_but gone entries ++ ((slot, new_state shown new) ∷ []))

-- The same of any rule: the new state came into the slot, and there was room.
pub record Placed (a : StateArea) (words : List ℕ) (s : Shown) (entries : List (ℕ × Sa)) (gave : ℕ → Type 0) (gone : Option ℕ) (slot : ℕ) (new : NewState) : Type 0 where
  pub given : gave slot
  pub fresh : Misses slot (slots_in entries)
  pub room : length s.states < s.max_states
  pub stands : StatesStand a words (with_state (with_states s (records_in (entries_but gone entries))) (new_state s new)) (entries_but gone entries ++ ((slot, new_state s new) ∷ []))
