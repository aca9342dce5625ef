-- What the words tell of the list, and what changes make of what is shown.
use Rattle.std.specs.Prelude.{ℕ, ◌+◌, ◌-◌, ◌^◌, min, List, [], ◌∷◌, ◌++◌, slice_index, slice_set}
use Rattle.xf_types.specs.declared.state.Sa.{Sa}
use Rattle.xf_types.specs.Machine.{Shown}
use Rattle.xf_cells.specs.Words.{next_count}
use Rattle.xf_sadidx.specs.declared.area.StateArea.{StateArea}
use Rattle.xf_sadidx.specs.Layout.{next_seq_place, next_sid_place, count_place}

-- the acquire counter, which is one of 1 to the greatest
abbrev pub next_seq_in : StateArea → List ℕ → ℕ
next_seq_in a image = min (slice_index image (next_seq_place a)) (2 ^ 32 - 2) + 1

-- the id of the next state
abbrev pub next_sid_in : StateArea → List ℕ → ℕ
next_sid_in a image = next_count (slice_index image (next_sid_place a))

-- how many states are listed
abbrev pub count_in : StateArea → List ℕ → ℕ
count_in a image = min (slice_index image (count_place a)) a.slots

-- the header with this word for the next id, and this count
abbrev pub tallied : StateArea → List ℕ → ℕ → ℕ → List ℕ
tallied a image sid_word count = slice_set (slice_set image (next_sid_place a) sid_word) (count_place a) count

-- the header where one state less is counted
abbrev pub one_less : StateArea → List ℕ → List ℕ
one_less a image = slice_set image (count_place a) (count_in a image - 1)

-- what is shown once a state is listed last, with the next id
abbrev pub with_state : Shown → Sa → Shown
with_state s state = record s { states = s.states ++ (state ∷ []); next_sid = s.next_sid + 1 }

-- what is shown with these states in place of the others
abbrev pub with_states : Shown → List Sa → Shown
with_states s states = record s { states = states }

-- what is shown with another acquire counter
abbrev pub with_next_seq : Shown → ℕ → Shown
with_next_seq s seq = record s { next_seq = seq }
