-- What each step makes of the hand of its seat. Each step but the load of the generation ends that a read has just begun.
use Rattle.std.specs.Prelude.{ℕ, ◌%◌, nat_le, nat_lt, ◌&&◌, Bool, true, false, if◌then◌else◌, List, [], ◌∷◌, ◌++◌, length, filter, find, drop, not, Option, Some, None, ◌==◌}
use Rattle.xf_views.specs.declared.hand.Hand.{Hand}

-- the ticket is the one that is served
abbrev pub is_served : Option ℕ → ℕ → Bool
is_served None serving = false
is_served (Some t) serving = t == serving

-- the read began even and ends at the same generation
abbrev pub is_same : Option ℕ → ℕ → Bool
is_same None g = false
is_same (Some b) g = (b == g) && (g % 2 == 0)

abbrev pub hand_after_ticket : Hand → ℕ → Hand
hand_after_ticket h t = record h { just_began = false; ticket = Some t }

-- with a turn that begins, no pin word was loaded and no slot retired in it
abbrev pub hand_after_serving : Hand → ℕ → Hand
hand_after_serving h serving = record h { just_began = false; has_turn = is_served h.ticket serving; loaded = []; retired = [] }

abbrev pub hand_after_begin : Hand → Hand
hand_after_begin h = record h { just_began = false; writing = true; drawn = false }

-- a status word from 2 on retires its slot
abbrev pub retired_after : ℕ → ℕ → ℕ → List (ℕ × ℕ) → List (ℕ × ℕ) → List (ℕ × ℕ)
retired_after slots place word loaded retired = if nat_lt place slots && nat_le 2 word then (place, length loaded) ∷ retired else retired

abbrev pub hand_after_store : ℕ → Hand → ℕ → ℕ → Hand
hand_after_store slots h place word = record h { just_began = false; retired = retired_after slots place word h.loaded h.retired }

-- a draw whose receipt stands at once
abbrev pub hand_after_draw : Hand → Bool → Hand
hand_after_draw h moves = record h { just_began = false; drawn = moves }

-- a draw that waits for the end of its read
abbrev pub hand_after_trial : Hand → ℕ → Hand
hand_after_trial h n = record h { just_began = false; trial = Some n }

abbrev pub hand_after_finish : Hand → Hand
hand_after_finish h = record h { just_began = false; writing = false; drawn = false }

abbrev pub hand_after_leave : Hand → Hand
hand_after_leave h = record h { just_began = false; has_turn = false; ticket = None }

-- a read ends, its trial with it, and the next one begins
abbrev pub hand_after_generation : Hand → ℕ → Hand
hand_after_generation h g = record h { just_began = true; began = Some g; trial = None }

-- the load of an image word, and a slot's turn that isn't free
abbrev pub hand_after_look : Hand → Hand
hand_after_look h = record h { just_began = false }

-- the own pin word is set, or cleared with 0
abbrev pub hand_after_pin : Hand → ℕ → Hand
hand_after_pin h pin = record h { just_began = false; pin = pin }

abbrev pub hand_after_load_pin : Hand → ℕ → ℕ → Hand
hand_after_load_pin h k pin = record h { just_began = false; loaded = h.loaded ++ (k, pin) ∷ [] }

abbrev pub hand_after_take : Hand → ℕ → Hand
hand_after_take h slot = record h { just_began = false; slots = slot ∷ h.slots }

abbrev pub hand_after_give : Hand → ℕ → Hand
hand_after_give h slot = record h { just_began = false; slots = filter (λ j. not (j == slot)) h.slots }

-- the pin words loaded in this turn before this retirement
abbrev pub count_before : Option (ℕ × ℕ) → ℕ
count_before None = 0
count_before (Some m) = m.1

-- the pin words loaded in this turn before the slot was retired; none where that was before the turn
abbrev pub loaded_before : ℕ → List (ℕ × ℕ) → ℕ
loaded_before slot retired = count_before (find (λ m. m.0 == slot) retired)

-- the pin words loaded in this turn and since the slot was retired
abbrev pub loaded_since : ℕ → Hand → List (ℕ × ℕ)
loaded_since slot h = drop (loaded_before slot h.retired) h.loaded

-- the hand of a seat before its first step
abbrev pub first_hand : Hand
first_hand =
    record {
      ticket = None;
      has_turn = false;
      writing = false;
      drawn = false;
      trial = None;
      began = None;
      just_began = false;
      pin = 0;
      loaded = [];
      retired = [];
      slots = [];
    }
