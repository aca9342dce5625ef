-- What each step asks of what its seat knows.
use Rattle.std.specs.Prelude.{◌≡◌, ◌==◌, ◌⊎◌, ℕ, ◌+◌, ◌<◌, true, false, List, [], ◌∷◌, length, Option, Some, None}
use Rattle.std.specs.List.{list_any}
use Rattle.xf_types.specs.declared.call.Reply.TheVariants as reply
use Rattle.xf_types.specs.declared.state.Sa.{Sa}
use Rattle.xf_types.specs.IsMachine.{IsShownPart}
use Rattle.xf_types.specs.Moves.{is_moving}
use Rattle.xf_types.specs.Standing.{Standing}
use Rattle.xf_views.specs.declared.entry.Entry.{Entry}
use Rattle.xf_views.specs.declared.view.View.{View}
use Rattle.xf_views.specs.declared.view.SlotTurn.{SlotTurn}
use Rattle.xf_ownpart.specs.OwnPart.{standing_of}
use Rattle.xf_views.specs.Log.{receipt}
use Rattle.xf_invariant.specs.Meaning.{Told, told_after}
use Rattle.xf_invariant.specs.PinPart.{Has}
use Rattle.xf_ownpart.specs.Turns.{KeepsSlots}
use Rattle.xf_legalpart.specs.Honest.{MoveIsHonest, StillIsHonest}
use Rattle.xf_table.specs.Rule.{most, good_at, lists_at}

-- a ticket: none is held, and the seat may still draw
pub record MayTicket (v : View) : Type 0 where
  pub ticketless : v.hand.ticket ≡ None
  pub room : v.knows.count < most

-- a look at the ticket that is served: the seat holds one and not the turn
pub record MayLook (v : View) : Type 0 where
  pub ticket : ℕ
  pub ticketed : v.hand.ticket ≡ Some ticket
  pub turnless : v.hand.has_turn ≡ false

-- the turn is held, with no opening
pub record IsShut (v : View) : Type 0 where
  pub turn : v.hand.has_turn ≡ true
  pub shut : v.hand.writing ≡ false

-- an opening that didn't draw yet
pub record IsOpen (v : View) : Type 0 where
  pub turn : v.hand.has_turn ≡ true
  pub opens : v.hand.writing ≡ true
  pub yet : v.hand.drawn ≡ false

-- one that drew
pub record IsDrawn (v : View) : Type 0 where
  pub opens : v.hand.writing ≡ true
  pub drew : v.hand.drawn ≡ true

-- a draw of a receipt that moves
pub record MayMove (v : View) (e : Entry) : Type 0 where
  pub opened : IsOpen v
  pub trialless : v.hand.trial ≡ None
  pub room : v.knows.count < most
  pub moves : is_moving e.reply ≡ true

-- a draw under the turn of one that doesn't
pub record MayStay (v : View) (e : Entry) : Type 0 where
  pub closed : IsShut v
  pub trialless : v.hand.trial ≡ None
  pub room : v.knows.count < most
  pub stays : is_moving e.reply ≡ false

-- a seat is split off: the first one makes it, there is a pin word for it, and none was taken in yet
pub record MaySplit (v : View) : Type 0 where
  pub makes : 0 < v.life.next
  pub room : v.life.next < v.life.start.seats
  pub clear : v.life.gathered ≡ []

-- one is taken in by the first seat: the next worker, with no opening and no slot's turn
pub record MayJoin (v w : View) : Type 0 where
  pub first : v.worker ≡ 0
  pub next : w.worker ≡ length v.life.gathered + 1
  pub shut : w.hand.writing ≡ false
  pub slotless : w.own.turns ≡ []

-- a slot's turn is asked for: the seat doesn't hold it, and isn't open
pub record MayTake (v : View) (slot : ℕ) : Type 0 where
  pub unheld : list_any (λ j. j == slot) v.hand.slots ≡ false
  pub shut : v.hand.writing ≡ false

-- a slot's turn that is held is given back: no trial waits, and an opening has drawn. Its value is the one that was taken last, and stands
-- for what the turn keeps
pub record MayGive {T : Type 0} (standing : T → Standing) (v : View) (carried : List (ℕ × Option T)) (slot : ℕ) : Type 0 where
  pub turn : SlotTurn
  pub value : T
  pub others : List (ℕ × Option T)
  pub held : Has v.own.turns turn
  pub slot_is : turn.slot ≡ slot
  pub first : carried ≡ (slot, Some value) ∷ others
  pub stands : standing value ≡ standing_of turn.listed
  pub trialless : v.hand.trial ≡ None
  pub drew : v.hand.writing ≡ true → v.hand.drawn ≡ true

module _ (bucket_of : Sa → ℕ) (good : ℕ → ℕ → List ℕ → Told → Type 0) (lists : ℕ → ℕ → List ℕ → ℕ → Option (Sa × ℕ)) where
  -- a move: each machine for which the kept image stands, and which has what the turns keep, gives this reply; the image stands for what the move
  -- makes of what the kept one tells; and slots whose turns aren't held list what they did. Number and worker are no matter
  pub record IsHonestMove (v : View) (e : Entry) : Type 0 where
    pub answers : (n k : ℕ) → MoveIsHonest (good_at good v.life.start) (lists_at lists v.life.start) v (receipt n k e)
    pub leads : (n k : ℕ) (t : Told) → IsShownPart t.shown → good_at good v.life.start v.image.kept t
        → good_at good v.life.start v.image.words (told_after bucket_of t (receipt n k e))
    pub slots : KeepsSlots (lists_at lists v.life.start) v.own.turns v.image.kept v.image.words

  -- another receipt: each machine for which the image stands, and which has what the turns keep, gives this reply; or memory was wanting
  abbrev pub IsHonestStay : View → Entry → Type 0
  IsHonestStay v e =
      (e.reply ≡ reply.NoMemory)
      ⊎ ((n k : ℕ) → StillIsHonest (good_at good v.life.start) (lists_at lists v.life.start) v (receipt n k e))
