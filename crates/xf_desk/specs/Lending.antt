-- What a pass is while a desk has it.
use Rattle.std.specs.Prelude.{◌≡◌, ◌≢◌, ℕ, ◌+◌, ◌≤◌, ◌<◌, ◌^◌, Bool, true, false, List, length, Option, Some, None}
use Rattle.xf_views.specs.declared.view.View.{View}
use Rattle.xf_seats.specs.Opened.{slots_of}
use Rattle.xf_values.specs.declared.state_value.StateValue.{StateValue}
use Rattle.xf_live.specs.Passes.{LiveView, PassView, IsHere}
use Rattle.xf_live.specs.Values.{slots_in, holds, home_at}

-- The view is what it was but for what loads, a begin, stores and slots' turns change.
abbrev pub Stays : View → View → Type 0
Stays v w =
    w ≡ record v {
      hand = record v.hand { just_began = w.hand.just_began; writing = w.hand.writing; drawn = w.hand.drawn; retired = w.hand.retired; slots = w.hand.slots };
      image = w.image;
      pins = record v.pins { fresh = w.pins.fresh };
      own = w.own;
    }

-- no value of a slot whose turn is held is out
abbrev pub AllHome : List (ℕ × Option StateValue) → Type 0
AllHome carried = (slot : ℕ) → home_at carried slot ≢ Some None

-- No turn was given back. Where none was taken of a state's slot, the turns are the same.
pub record KeepsTurns (policies : ℕ) (p q : PassView StateValue) : Type 0 where
  pub still : (slot : ℕ) → holds p.values slot ≡ true → holds q.values slot ≡ true
  pub same : ((slot : ℕ) → holds q.values (policies + slot) ≡ holds p.values (policies + slot))
      → (q.view.own ≡ p.view.own) × (q.view.hand.slots ≡ p.view.hand.slots) × (slots_in q.values ≡ slots_in p.values)

-- The pass has the turn of the database and didn't draw since it was lent. Before it begins, the words are those that it was lent with, and
-- afterwards these are kept.
pub record IsLent (policies : ℕ) (p q : PassView StateValue) (writing : Bool) : Type 0 where
  pub table : q.table ≡ p.table
  pub room : q.room ≡ p.room
  pub stays : Stays p.view q.view
  pub turn : q.view.hand.has_turn ≡ true
  pub opened : q.view.hand.writing ≡ writing
  pub yet : q.view.hand.drawn ≡ false
  pub before : writing ≡ false → q.view.image.words ≡ p.view.image.words
  pub after : writing ≡ true → q.view.image.kept ≡ p.view.image.words
  pub turns : KeepsTurns policies p q
  pub home : AllHome q.values

-- A pass of the table that may be lent: it has the turn and isn't open, knows all words, and the values of the slots whose turns it has are there.
pub record MayLend (l : LiveView) (p : PassView StateValue) : Type 0 where
  pub here : IsHere l p
  pub turn : p.view.hand.has_turn ≡ true
  pub shut : p.view.hand.writing ≡ false
  pub yet : p.view.hand.drawn ≡ false
  pub size : length p.view.image.words ≡ l.count
  pub home : AllHome p.values

-- so many slots of both lists are there, a word for each and fewer words than 2^32
pub record AreSlots (l : LiveView) (policies states : ℕ) : Type 0 where
  pub policies_are : policies ≡ l.start.policies
  pub states_are : states ≡ l.start.states
  pub words : slots_of l.start ≤ l.count
  pub small : l.count < 2 ^ 32
