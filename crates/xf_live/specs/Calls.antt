-- What the calls of a table ask, and what they tell.
use Rattle.std.specs.Prelude.{◌≡◌, ℕ, ◌+◌, ◌-◌, ◌^◌, ◌<◌, min, true, false, List, ◌∷◌, Option, Some, None}
use Rattle.xf_types.specs.declared.state.Sa.{Sa}
use Rattle.xf_types.specs.Standing.{Standing}
use Rattle.xf_views.specs.declared.entry.Listed.{Listed}
use Rattle.xf_views.specs.declared.view.View.{View}
use Rattle.xf_views.specs.declared.view.SlotTurn.{SlotTurn}
use Rattle.xf_ownpart.specs.OwnPart.{standing_of}
use Rattle.xf_views.specs.Views.{view_after_ticket, view_after_serving, view_after_load, view_after_take}
use Rattle.xf_invariant.specs.Meaning.{Told}
use Rattle.xf_invariant.specs.PinPart.{Has}
use Rattle.xf_table.specs.Plays.{Enters, StandsWith}
use Rattle.xf_live.specs.Passes.{PassView}
use Rattle.xf_live.specs.Values.{holds, home_at}

-- what a seat knows while it waits: its ticket, and what it saw at its last look
abbrev pub view_waiting : View → ℕ → List ℕ → List (ℕ × ℕ) → List (ℕ × ℕ) → View
view_waiting v t words loaded retired =
    let w = view_after_ticket v t in
    record w {
      hand = record w.hand { has_turn = false; loaded = loaded; retired = retired };
      image = record w.image { words = words };
    }

-- what it knows once its turn came: its ticket, and the image words
abbrev pub view_entered : View → ℕ → List ℕ → View
view_entered v t words =
    let w = view_after_serving (view_after_ticket v t) t words in
    record w { hand = record w.hand { has_turn = true } }

-- so many words loaded, and one more
abbrev pub one_more : ℕ → ℕ
one_more loads = min (loads + 1) (2 ^ 64 - 1)

module _ {X : Type 0} where
  -- the pass waits for the turn with this ticket
  abbrev pub Waiting : PassView X → ℕ → PassView X → Type 0
  Waiting p t q =
      (words : List ℕ) × (loaded : List (ℕ × ℕ)) × (retired : List (ℕ × ℕ)) × (q ≡ record p { view = view_waiting p.view t words loaded retired })

  -- the pass after it loaded a word
  abbrev pub loading : PassView X → ℕ → ℕ → PassView X
  loading p place word = record p { view = view_after_load p.view place word; loads = one_more p.loads }

module _ {X : Type 0} (good : ℕ → ℕ → List ℕ → Told → Type 0) (lists : ℕ → ℕ → List ℕ → ℕ → Option (Sa × ℕ)) where
  -- the pass has the turn now: its seat knows the image, which stands for a machine
  pub record Entered (p q : PassView X) : Type 0 where
    pub ticket : ℕ
    pub image : List ℕ
    pub after : q ≡ record p { view = view_entered p.view ticket image }
    pub enters : Enters good lists p.view image

  -- it has a slot's turn now, with its value, which stands for what is listed there. With the database's turn and no opening the image lists it
  pub record Took (standing : X → Standing) (p : PassView X) (slot : ℕ) (q : PassView X) : Type 0 where
    pub listed : Option Listed
    pub value : X
    pub stands : standing value ≡ standing_of listed
    pub after : q ≡ record p { view = view_after_take p.view slot listed; values = (slot, Some value) ∷ p.values }
    pub lists_it : p.view.hand.has_turn ≡ true → p.view.hand.writing ≡ false → StandsWith good lists p.view.life.start p.view.image.words q.view.own.turns

-- a slot's turn may be asked for: there is such a slot, it isn't held, and the seat isn't open
pub record MayTake {X : Type 0} (slots : ℕ) (p : PassView X) (slot : ℕ) : Type 0 where
  pub inside : slot < slots
  pub free : holds p.values slot ≡ false
  pub shut : p.view.hand.writing ≡ false

module _ {X : Type 0} (standing : X → Standing) where
  -- the slot's turn may be given back: no trial waits, an opening drew its number, and the slot's value is at home and stands for what the turn
  -- keeps
  pub record Returns (p : PassView X) (slot : ℕ) : Type 0 where
    pub trialless : p.view.hand.trial ≡ None
    pub drew : p.view.hand.writing ≡ true → p.view.hand.drawn ≡ true
    pub turn : SlotTurn
    pub held : Has p.view.own.turns turn
    pub slot_is : turn.slot ≡ slot
    pub value : X
    pub home : home_at p.values slot ≡ Some (Some value)
    pub stands : standing value ≡ standing_of turn.listed
