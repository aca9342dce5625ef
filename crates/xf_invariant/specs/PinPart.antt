-- The pin part of what always holds: pins and slots. Of the image words the first ones are the statuses, those of the policies'
-- slots before those of the states'.
use Rattle.std.specs.Prelude.{◌≡◌, ℕ, ◌+◌, ◌<◌, ◌≤◌, ◌⊎◌, true, List, [], slice_index}
use mathlib.Core.Option.{some}
use lib.ListN.{get_elem?}
use Rattle.xf_views.specs.declared.view.View.{View}
use Rattle.xf_views.specs.Hands.{loaded_since}

-- it is in the list
abbrev pub Has : {A : Type 0} → List A → A → Type 0
Has l a = (k : ℕ) × (get_elem? l k ≡ some a)

module _ (policies slots : ℕ) (id_place : ℕ → ℕ) where
  -- a seat with these shows holds the slot with this state id: a read that ended the same since its pin showed it listed with that
  -- id, and it is a state's
  abbrev pub Holds : List (List (ℕ × ℕ)) → ℕ → ℕ → Type 0
  Holds shows s sid = (loads : List (ℕ × ℕ)) × Has shows loads × Has loads (s, 1) × Has loads (id_place s, sid) × (policies ≤ s) × (s < slots)

  -- what is said of one seat: its pin word is at most one more than the generation; without a pin it holds nothing; what it holds
  -- is listed, or retired at its pin or later, and has the held id in the settled image
  pub record FitsPin (generation : ℕ) (words settled pins : List ℕ) (k pin : ℕ) (shows : List (List (ℕ × ℕ))) : Type 0 where
    pub word : get_elem? pins k ≡ some pin
    pub low : pin ≤ generation + 1
    pub bare : pin ≡ 0 → shows ≡ []
    pub holds : (s sid : ℕ) → Holds shows s sid
        → ((slice_index words s ≡ 1) ⊎ ((2 ≤ slice_index words s) × (pin ≤ slice_index words s)))
        × (slice_index settled (id_place s) ≡ sid)

  abbrev pub IsInPin : ℕ → List ℕ → List ℕ → List ℕ → View → Type 0
  IsInPin generation words settled pins v = FitsPin generation words settled pins v.worker v.hand.pin v.pins.shows

  pub record PinPart (generation : ℕ) (words settled pins : List ℕ) (views : List View) : Type 0 where
    pub retired : (s : ℕ) → s < slots → slice_index words s ≤ generation + 1
    pub each : (i : ℕ) (v : View) → get_elem? views i ≡ some v → v.here ≡ true → IsInPin generation words settled pins v
    -- a seat whose pin the turn's owner found clear for a retired slot doesn't hold it
    pub clear : (i j : ℕ) (v u : View) → get_elem? views i ≡ some v → v.here ≡ true → v.hand.has_turn ≡ true → get_elem? views j ≡ some u → u.here ≡ true
        → (s pin sid : ℕ) → 2 ≤ slice_index words s → Has (loaded_since s v.hand) (u.worker, pin) → (pin ≡ 0) ⊎ (slice_index words s < pin) → Holds u.pins.shows s sid → ⊥
    -- nor does a seat hold a slot that was listed in this opening
    pub fresh : (i j : ℕ) (v u : View) → get_elem? views i ≡ some v → v.here ≡ true → v.hand.writing ≡ true → get_elem? views j ≡ some u → u.here ≡ true
        → (s sid : ℕ) → Has v.pins.fresh s → Holds u.pins.shows s sid → ⊥
