-- The best of states: one that isn't dying before one that is, then the latest added time, then the one that was added last.
use Rattle.std.specs.Prelude.{ℕ, Bool, true, false, nat_lt, if◌then◌else◌, List, [], ◌∷◌, Option, None, Some, reverse}
use Rattle.xf_types.specs.declared.state.Sa.{Sa}
use Rattle.xf_asked.specs.Fields.{dying_at, added_at}
use Rattle.xf_sadidx.specs.declared.area.StateArea.{StateArea}
use Rattle.xf_sadidx.specs.declared.best.Seen.{Seen}
use Rattle.xf_sadidx.specs.declared.query.StateQuery.{StateQuery}
use Rattle.xf_sadidx.specs.Layout.{record_place}
use Rattle.xf_sadidx.specs.Queries.{meets_in}

-- whether a state is better than a later one, by what is dying and by whether its added time is greater
abbrev pub beats_by : Bool → Bool → Bool → Bool
beats_by true false greater = false
beats_by false true greater = true
beats_by true true greater = greater
beats_by false false greater = greater

-- ---- in words

-- what a slot's record tells of it
abbrev pub seen_in : StateArea → List ℕ → ℕ → Seen
seen_in a image slot = record {
  slot = slot;
  dying = dying_at image (record_place a slot);
  added = added_at image (record_place a slot);
}

-- the better of the one that was met, where one was, and an earlier one
abbrev pub better : Option Seen → Seen → Seen
better None new = new
better (Some best) new = if beats_by new.dying best.dying (nat_lt best.added new.added) then new else best

-- the best of slots, with the one that was met before them
abbrev pub best_from : StateArea → List ℕ → StateQuery → Option Seen → List ℕ → Option Seen
best_from a image query best [] = best
best_from a image query best (slot ∷ slots) =
    best_from a image query (if meets_in a image query slot then Some (better best (seen_in a image slot)) else best) slots

-- its slot
abbrev pub slot_seen : Option Seen → Option ℕ
slot_seen None = None
slot_seen (Some best) = Some best.slot

-- ---- in the list

-- a state is better than a later one
abbrev pub beats : Sa → Sa → Bool
beats s best = beats_by s.dying best.dying (nat_lt best.added s.added)

-- the better of the entry that was met, where one was, and an earlier one
abbrev pub better_entry : Option (ℕ × Sa) → ℕ × Sa → ℕ × Sa
better_entry None e = e
better_entry (Some best) e = if beats e.1 best.1 then e else best

-- the best of the entries that pass a test, the last entry first, with the one that was met before them
abbrev pub best_of : (Sa → Bool) → Option (ℕ × Sa) → List (ℕ × Sa) → Option (ℕ × Sa)
best_of test best [] = best
best_of test best (e ∷ es) = best_of test (if test e.1 then Some (better_entry best e) else best) es

-- the best of all entries that pass
abbrev pub best_in : (Sa → Bool) → List (ℕ × Sa) → Option (ℕ × Sa)
best_in test entries = best_of test None (reverse entries)
