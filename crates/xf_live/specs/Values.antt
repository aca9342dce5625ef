-- The values of the slots whose turns are held, the one that was taken last first. One that is out is None.
use Rattle.std.specs.Prelude.{◌≡◌, ℕ, ◌==◌, ◌<◌, Bool, true, not, if◌then◌else◌, List, [], ◌∷◌, ◌++◌, map, filter, drop, take, Option, Some, None}
use Rattle.xf_cells.specs.Frees.{is_among, are_apart}
use Rattle.xf_views.specs.declared.view.SlotTurn.{SlotTurn}

-- the slots of these turns
abbrev pub slots_of_turns : List SlotTurn → List ℕ
slots_of_turns turns = map (λ (e : SlotTurn). e.slot) turns

-- the first ones go behind the others
abbrev pub rotated : {A : Type 0} → ℕ → List A → List A
rotated n xs = drop n xs ++ take n xs

module _ {X : Type 0} where
  -- the slots, in their order
  abbrev pub slots_in : List (ℕ × Option X) → List ℕ
  slots_in xs = map (λ (x : ℕ × Option X). x.0) xs

  -- the slot's turn is held
  abbrev pub holds : List (ℕ × Option X) → ℕ → Bool
  holds xs slot = is_among slot (slots_in xs)

  -- what is at home in a slot whose turn is held: its value, or None where that is out. None where the turn isn't held
  abbrev pub home_at : List (ℕ × Option X) → ℕ → Option (Option X)
  home_at [] slot = None
  home_at (x ∷ xs) slot = if x.0 == slot then Some x.1 else home_at xs slot

  -- after the value in a slot was replaced
  abbrev pub with_home : List (ℕ × Option X) → ℕ → Option X → List (ℕ × Option X)
  with_home xs slot o = map (λ (x : ℕ × Option X). if x.0 == slot then (slot, o) else x) xs

  -- after the slot's turn was given back
  abbrev pub without : List (ℕ × Option X) → ℕ → List (ℕ × Option X)
  without xs slot = filter (λ (x : ℕ × Option X). not (x.0 == slot)) xs

  -- the values are those of the slots that the hand has, in the order of their turns; no slot stands twice, and each is one of the table's
  pub record AreHeld (slots : ℕ) (hand : List ℕ) (turns : List SlotTurn) (values : List (ℕ × Option X)) (held : List ℕ) : Type 0 where
    pub values_are : slots_in values ≡ held
    pub hand_is : hand ≡ held
    pub turns_are : slots_of_turns turns ≡ held
    pub apart : are_apart held ≡ true
    pub below : (slot : ℕ) → is_among slot held ≡ true → slot < slots
