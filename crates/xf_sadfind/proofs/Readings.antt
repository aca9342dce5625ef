-- What is read in the slots of entries, and of the one that is found.
use Rattle.std.proofs.Common.{◌≡◌, ℕ, ◌==◌, Bool, true, false, cond, List, [], ◌∷◌, Some, reverse, refl, ap, rules}
use Rattle.xf_types.specs.declared.state.Sa.{Sa}
use Rattle.xf_types.specs.StateList.{has_sid}
use Rattle.xf_index.specs.Indexes.{Holds}
use Rattle.xf_index.specs.Finds.{found_in, slot_found, record_found}
use Rattle.xf_index.proofs.Holds.{holds_test}
use Rattle.xf_asked.specs.Fields.{sid_at}
use Rattle.xf_asked.proofs.FieldLaws.{sid_is}
use Rattle.xf_sadidx.specs.declared.area.StateArea.{StateArea}
use Rattle.xf_sadidx.specs.Layout.{record_place, record_at}
use Rattle.xf_sadidx.specs.Standing.{RecordsStand}
use Rattle.xf_sadidx.specs.Founds.{latest_in}
use Rattle.xf_sadidx.proofs.Reverses.{holds_reverse}
use Rattle.xf_sadfind.specs.Slots.{has_sid_in, sid_in, IsThere}
use Rattle.xf_sadfind.specs.Replaced.{sid_found}

-- the word of the state id
pub sids_hold : (a : StateArea) (image : List ℕ) (es : List (ℕ × Sa)) → RecordsStand a image es → Holds (λ slot. sid_at image (record_place a slot)) (λ s. s.sid) es
sids_hold a image [] h = search rules
sids_hold a image (e ∷ es) h = (sid_is image (record_place a e.0) e.1 h.0, sids_hold a image es h.1)

pub sid_tests_hold : (a : StateArea) (image : List ℕ) (sid : ℕ) (es : List (ℕ × Sa)) → RecordsStand a image es → Holds (has_sid_in a image sid) (has_sid sid) es
sid_tests_hold a image sid es h = holds_test (λ slot. sid_at image (record_place a slot)) (λ s. s.sid) (λ n. n == sid) es (sids_hold a image es h)

-- of the entry that is found
found_sid : (a : StateArea) (image : List ℕ) (test : Sa → Bool) (es : List (ℕ × Sa)) → RecordsStand a image es
    → sid_in a image (slot_found (found_in test es)) ≡ sid_found (record_found (found_in test es))
found_sid a image test [] h = refl
found_sid a image test (e ∷ es) h = step (test e.1) (found_sid a image test es h.1)
  where
    step : (b : Bool) → sid_in a image (slot_found (found_in test es)) ≡ sid_found (record_found (found_in test es))
        → sid_in a image (slot_found (cond b (Some e) (found_in test es))) ≡ sid_found (record_found (cond b (Some e) (found_in test es)))
    step true k = ap (λ n. Some n) (sid_is image (record_place a e.0) e.1 h.0)
    step false k = k

found_there : (a : StateArea) (image : List ℕ) (test : Sa → Bool) (es : List (ℕ × Sa)) → RecordsStand a image es
    → IsThere a image (slot_found (found_in test es)) (record_found (found_in test es))
found_there a image test [] h = search rules
found_there a image test (e ∷ es) h = step (test e.1) (found_there a image test es h.1)
  where
    step : (b : Bool) → IsThere a image (slot_found (found_in test es)) (record_found (found_in test es))
        → IsThere a image (slot_found (cond b (Some e) (found_in test es))) (record_found (cond b (Some e) (found_in test es)))
    step true k = h.0
    step false k = k

-- and of the last one
pub latest_sid : (a : StateArea) (image : List ℕ) (test : Sa → Bool) (es : List (ℕ × Sa)) → RecordsStand a image es
    → sid_in a image (slot_found (latest_in test es)) ≡ sid_found (record_found (latest_in test es))
latest_sid a image test es h = found_sid a image test (reverse es) (holds_reverse (λ slot. record_at a image slot) (λ s. Some s) es h)

pub latest_there : (a : StateArea) (image : List ℕ) (test : Sa → Bool) (es : List (ℕ × Sa)) → RecordsStand a image es
    → IsThere a image (slot_found (latest_in test es)) (record_found (latest_in test es))
latest_there a image test es h = found_there a image test (reverse es) (holds_reverse (λ slot. record_at a image slot) (λ s. Some s) es h)
