-- What each step tells the seat that makes it.
use Rattle.std.specs.Prelude.{◌≡◌, ℕ, ◌+◌, ◌-◌, ◌%◌, ◌<◌, ◌^◌, true, false, List, [], ◌∷◌, ◌++◌, length, map, Option, Some, None, slice_index}
use Rattle.atomic_table.specs.Table.{Me, Step, rest}
use Rattle.xf_types.specs.declared.call.Receipt.{Receipt}
use Rattle.xf_types.specs.declared.state.Sa.{Sa}
use Rattle.xf_types.specs.Machine.{Machine}
use Rattle.xf_types.specs.IsMachine.{IsMachine, IsShownPart}
use Rattle.xf_types.specs.Standing.{Standing}
use Rattle.xf_late.specs.Rests.{rests_on}
use Rattle.xf_views.specs.declared.entry.Entry.{Entry}
use Rattle.xf_views.specs.declared.entry.Listed.{Listed}
use Rattle.xf_views.specs.declared.view.View.{View}
use Rattle.xf_views.specs.declared.view.Start.{Start}
use Rattle.xf_views.specs.declared.view.SlotTurn.{SlotTurn}
use Rattle.xf_views.specs.Hands.{is_served}
use Rattle.xf_ownpart.specs.OwnPart.{standing_of}
use Rattle.xf_views.specs.Log.{receipt, IsFront, AreBelow}
use Rattle.xf_views.specs.Views.{view_after_ticket, view_after_serving, view_after_begin, view_after_store, view_after_draw, view_after_finish, view_after_leave, view_after_load, view_after_take, view_after_miss, view_after_give}
use Rattle.xf_invariant.specs.Meaning.{Told}
use Rattle.xf_invariant.specs.PinPart.{Has}
use Rattle.xf_ownpart.specs.OwnPart.{listed_at}
use Rattle.xf_ownpart.specs.Turns.{touched_turn, moved_turn}
use Rattle.xf_seats.specs.Opened.{slots_of}
use Rattle.xf_table.specs.Rule.{good_at, lists_at}
use Rattle.xf_table.specs.Growth.{HasGrown}

-- what a seat knows, and the slots that it carries
abbrev pub Now : Type 0 → Type 0
Now T = Me (Option T) View

-- where a receipt comes to stand that is drawn with this number: these are all moves so far, and the seat saw the first of them. All of
-- them, and the seat's own receipts, have smaller numbers
pub record IsPlaced (n : ℕ) (v : View) (all : List Receipt) : Type 0 where
  pub seen : IsFront v.knows.seen all
  pub moves : AreBelow n all
  pub own : AreBelow n v.knows.mine

-- where the image begins among the words, and where the turn words do
abbrev pub front : View → ℕ
front v = v.life.start.seats + 4

abbrev pub back : View → ℕ
back v = (length v.life.start.words + v.life.start.seats) + 4

module _ (good : ℕ → ℕ → List ℕ → Told → Type 0) (lists : ℕ → ℕ → List ℕ → ℕ → Option (Sa × ℕ)) where
  -- the image stands for a machine, and these turns keep what it lists at their slots, with the machine's own parts
  pub record StandsWith (start : Start) (image : List ℕ) (turns : List SlotTurn) : Type 0 where
    pub machine : Machine
    pub told : Told
    pub is : IsMachine machine
    pub shown : told.shown ≡ machine.shown
    pub stands : good_at good start image told
    pub kept : (e : SlotTurn) → Has turns e → listed_at (lists_at lists start) machine image e.slot ≡ e.listed

  -- the receipt rests on the own part of this state, or on none, by what the image shows
  pub record RestsBy (start : Start) (image : List ℕ) (r : Receipt) (one : Option ℕ) : Type 0 where
    pub told : Told
    pub is : IsShownPart told.shown
    pub stands : good_at good start image told
    pub rests : one ≡ rests_on told.shown r

  -- what is told to a seat that gets the turn
  pub record Enters (v : View) (image : List ℕ) : Type 0 where
    pub size : length image ≡ length v.life.start.words
    pub stands : StandsWith v.life.start image v.own.turns
    pub grown : HasGrown (good_at good v.life.start) v.life.start.words stands.told

module _ {T : Type 0} where
  abbrev pub takes_ticket : Step (Option T) → Now T → ℕ → Now T → Type 0
  takes_ticket s v n w = w ≡ (view_after_ticket v.0 n, v.1)

  abbrev pub leaves : Step (Option T) → Now T → ℕ → Now T → Type 0
  leaves s v n w = w ≡ (view_after_leave v.0, v.1)

  -- the generation that was found is even, and small
  abbrev pub begins : Step (Option T) → Now T → ℕ → Now T → Type 0
  begins s v n w = (w ≡ (view_after_begin v.0, v.1)) × (n % 2 ≡ 0) × (n + 1 < 2 ^ 62)

  abbrev pub finishes : Step (Option T) → Now T → ℕ → Now T → Type 0
  finishes s v n w = w ≡ (view_after_finish v.0, v.1)

  abbrev pub stores : Step (Option T) → Now T → ℕ → Now T → Type 0
  stores s v n w = w ≡ (view_after_store (slots_of v.0.life.start) v.0 (s.word - front v.0) s.first, v.1)

  -- with the turn, the word is that of the known image
  abbrev pub loads : Step (Option T) → Now T → ℕ → Now T → Type 0
  loads s v n w =
      (w ≡ (view_after_load v.0 (s.word - front v.0) n, v.1))
      × (v.0.hand.has_turn ≡ true → n ≡ slice_index v.0.image.words (s.word - front v.0))

  abbrev pub gives : Step (Option T) → Now T → ℕ → Now T → Type 0
  gives s v n w = w ≡ (view_after_give v.0 (s.word - back v.0), rest v.1)

module _ {T : Type 0} (good : ℕ → ℕ → List ℕ → Told → Type 0) (lists : ℕ → ℕ → List ℕ → ℕ → Option (Sa × ℕ)) where
  -- the seat with the served ticket gets the turn, and knows the image
  abbrev pub Looked : ℕ → Now T → Now T → Type 0
  Looked n v w =
      (image : List ℕ) × (w ≡ (view_after_serving v.0 n image, v.1))
      × (is_served v.0.hand.ticket n ≡ true → Enters good lists v.0 image)

  abbrev pub looks_serving : Step (Option T) → Now T → ℕ → Now T → Type 0
  looks_serving s v n w = Looked n v w

  -- a move with this number
  abbrev pub Moved : Entry → ℕ → Now T → Now T → Type 0
  Moved e n v w =
      (all : List Receipt) × (one : Option ℕ) × IsPlaced n v.0 all × (let r = receipt n v.0.worker e in
      RestsBy good lists v.0.life.start v.0.image.kept r one
      × (w ≡ (view_after_draw v.0 true (all ++ r ∷ []) r (map (moved_turn (lists_at lists v.0.life.start) v.0.image.words one r.call) v.0.own.turns), v.1)))

  -- another receipt
  abbrev pub Stayed : Entry → ℕ → Now T → Now T → Type 0
  Stayed e n v w =
      (all : List Receipt) × (one : Option ℕ) × IsPlaced n v.0 all × (let r = receipt n v.0.worker e in
      RestsBy good lists v.0.life.start v.0.image.words r one
      × (w ≡ (view_after_draw v.0 false all r (map (touched_turn one r.call) v.0.own.turns), v.1)))

  -- draws of what was announced
  abbrev pub moves_with : Option Entry → Step (Option T) → Now T → ℕ → Now T → Type 0
  moves_with None s v n w = Unit {0}
  moves_with (Some e) s v n w = Moved e n v w

  abbrev pub stays_with : Option Entry → Step (Option T) → Now T → ℕ → Now T → Type 0
  stays_with None s v n w = Unit {0}
  stays_with (Some e) s v n w = Stayed e n v w

  -- the slot's turn was free: it is held, and its value came with it, which stands for what the turn keeps
  abbrev pub Took : (T → Standing) → ℕ → Now T → Now T → Type 0
  Took standing slot v w =
      (x : T) × (listed : Option Listed) × (standing x ≡ standing_of listed) × (w ≡ (view_after_take v.0 slot listed, (slot, Some x) ∷ v.1))
      × (v.0.hand.has_turn ≡ true → v.0.hand.writing ≡ false → StandsWith good lists v.0.life.start v.0.image.words (view_after_take v.0 slot listed).own.turns)

  abbrev pub takes_turn : (T → Standing) → Step (Option T) → Now T → ℕ → Now T → Type 0
  takes_turn standing s v n w =
      (n ≡ 0 → Took standing (s.word - back v.0) v w) × ((n ≡ 0 → ⊥) → w ≡ (view_after_miss v.0, v.1))
