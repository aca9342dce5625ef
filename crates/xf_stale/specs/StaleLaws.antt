-- What is said of each step: it keeps the part on held states. And what that part says of one that its slot doesn't list.
use Rattle.std.specs.Prelude.{◌≡◌, ℕ, ◌+◌, true, false, List, [], ◌∷◌, ◌++◌, take, Option, Some, None}
use Rattle.std.proofs.Common.{set}
use mathlib.Core.Option.{some}
use lib.ListN.{get_elem?}
use Rattle.xf_types.specs.declared.call.Receipt.{Receipt}
use Rattle.xf_types.specs.declared.state.Sa.{Sa}
use Rattle.xf_types.specs.Machine.{Machine}
use Rattle.xf_types.specs.Moves.{is_moving}
use Rattle.xf_types.specs.Standing.{Nothing}
use Rattle.xf_types.specs.History.{MayReply, beginning, moment_of}
use Rattle.xf_laws.specs.LeaveLaws.{is_listed}
use Rattle.xf_late.specs.Rests.{rests_on}
use Rattle.xf_views.specs.declared.entry.Entry.{Entry}
use Rattle.xf_views.specs.declared.entry.Listed.{Listed}
use Rattle.xf_views.specs.declared.view.View.{View}
use Rattle.xf_views.specs.declared.view.Start.{Start}
use Rattle.xf_views.specs.declared.view.SlotTurn.{SlotTurn}
use Rattle.xf_views.specs.Hands.{is_same}
use Rattle.xf_views.specs.Starts.{first_views}
use Rattle.xf_views.specs.Log.{Mark, mark, receipt, receipts_of, moves}
use Rattle.xf_views.specs.Views.{view_after_ticket, view_after_serving, view_after_begin, view_after_store, view_after_draw, view_after_trial, view_after_finish, view_after_leave, view_after_generation, view_after_load, view_after_pin, view_after_load_pin, view_after_take, view_after_miss, view_after_give}
use Rattle.xf_invariant.specs.Meaning.{Told, told_after, told_after_moves, Opens}
use Rattle.xf_invariant.specs.PinPart.{Has, Holds}
use Rattle.xf_ownpart.specs.Turns.{IsCovered, tried_of, KeepsSlots}
use Rattle.xf_ownpart.specs.OwnLaws.{Shift, last_of}
use Rattle.xf_stale.specs.StalePart.{StalePart}

abbrev pub StaleBegins : (List ℕ → ℕ → Option (Sa × ℕ)) → (ℕ → ℕ) → ℕ → ℕ → Type 0
StaleBegins lists id_place policies states =
    (start : Machine) (base : List ℕ) (made : ℕ) (first : Start) → StalePart lists id_place policies states start [] base (first_views first made)

module _ (bucket_of : Sa → ℕ) (good : List ℕ → Told → Type 0) (lists : List ℕ → ℕ → Option (Sa × ℕ)) (id_place : ℕ → ℕ) (policies states : ℕ) where
  -- a shift in which held states are at home, and a seat that makes the next step
  pub record Hold (most : ℕ) (base : List ℕ) (start : Machine) : Type 0 where
    pub shift : Shift bucket_of good lists most base start
    pub stale : StalePart lists id_place policies states start shift.scene.log shift.scene.settled shift.scene.views

  abbrev pub HoldsAfter : (most : ℕ) (base : List ℕ) (start : Machine) → Hold most base start → List Mark → List ℕ → View → Type 0
  HoldsAfter most base start h log settled v = StalePart lists id_place policies states start log settled (set h.shift.scene.views h.shift.scene.seat v)

  abbrev pub StaysAfter : (most : ℕ) (base : List ℕ) (start : Machine) → Hold most base start → View → Type 0
  StaysAfter most base start h v = HoldsAfter most base start h h.shift.scene.log h.shift.scene.settled v

  pub record DrawKeepsStale : Type 0 where
    -- a move
    pub moving : (most : ℕ) (base : List ℕ) (start : Machine) (h : Hold most base start) (one : Option ℕ) (e : Entry) (moves_now : List Receipt) (turns : List SlotTurn)
        → h.shift.scene.view.hand.has_turn ≡ true → h.shift.scene.view.hand.writing ≡ true → h.shift.scene.view.hand.drawn ≡ false → h.shift.scene.view.hand.trial ≡ None
        → is_moving e.reply ≡ true
        → let v = h.shift.scene.view in
        let all = moves h.shift.scene.log in
        let r = receipt h.shift.scene.numbers.draw v.worker e in
        MayReply (moment_of (beginning start) (receipts_of h.shift.scene.log)) r r.reply
        → ((t : Told) → Opens good base t → good v.image.kept (told_after_moves bucket_of t all) → good v.image.words (told_after bucket_of (told_after_moves bucket_of t all) r))
        → KeepsSlots lists v.own.turns v.image.kept v.image.words
        → HoldsAfter most base start h (h.shift.scene.log ++ mark v.worker one (Some r) ∷ []) h.shift.scene.words (view_after_draw v true moves_now r turns)
    -- another receipt, and a trial
    pub still : (most : ℕ) (base : List ℕ) (start : Machine) (h : Hold most base start) (one : Option ℕ) (r : Receipt) (moves_now : List Receipt) (turns : List SlotTurn)
        → HoldsAfter most base start h (h.shift.scene.log ++ mark h.shift.scene.view.worker one (Some r) ∷ []) h.shift.scene.settled (view_after_draw h.shift.scene.view false moves_now r turns)
    pub trial : (most : ℕ) (base : List ℕ) (start : Machine) (h : Hold most base start) (x : ℕ) (moves_now : List Receipt)
        → HoldsAfter most base start h (h.shift.scene.log ++ mark h.shift.scene.view.worker None None ∷ []) h.shift.scene.settled (view_after_trial h.shift.scene.view x moves_now)

  pub record LoadGenerationKeepsStale : Type 0 where
    pub blank : (most : ℕ) (base : List ℕ) (start : Machine) (h : Hold most base start) (moves_now : List Receipt) (turns : List SlotTurn)
        → StaysAfter most base start h (view_after_generation h.shift.scene.view h.shift.scene.numbers.generation moves_now [] turns)
    pub settled : (most : ℕ) (base : List ℕ) (start : Machine) (h : Hold most base start) (x : ℕ) (e : Entry) (moves_now : List Receipt) (turns : List SlotTurn)
        → h.shift.scene.view.hand.trial ≡ Some x → is_same h.shift.scene.view.hand.began h.shift.scene.numbers.generation ≡ true → is_moving e.reply ≡ false
        → let v = h.shift.scene.view in
        let r = receipt x v.worker e in
        let one = rests_on (last_of bucket_of good lists most base start h.shift).shown r in
        MayReply (moment_of (beginning start) (receipts_of (take x h.shift.scene.log))) r r.reply
        → IsCovered (tried_of v.own.turns) one
        → HoldsAfter most base start h (set h.shift.scene.log x (mark v.worker one (Some r))) h.shift.scene.settled
        (view_after_generation v h.shift.scene.numbers.generation moves_now (r ∷ []) turns)

  abbrev pub PinKeepsStale : Type 0
  PinKeepsStale = (most : ℕ) (base : List ℕ) (start : Machine) (h : Hold most base start) (pin : ℕ) → StaysAfter most base start h (view_after_pin h.shift.scene.view pin)

  pub record OthersKeepStale : Type 0 where
    pub ticket : (most : ℕ) (base : List ℕ) (start : Machine) (h : Hold most base start) (t : ℕ) → StaysAfter most base start h (view_after_ticket h.shift.scene.view t)
    pub serving : (most : ℕ) (base : List ℕ) (start : Machine) (h : Hold most base start) (serving : ℕ) (words : List ℕ) → StaysAfter most base start h (view_after_serving h.shift.scene.view serving words)
    pub begin : (most : ℕ) (base : List ℕ) (start : Machine) (h : Hold most base start) → StaysAfter most base start h (view_after_begin h.shift.scene.view)
    pub store : (most : ℕ) (base : List ℕ) (start : Machine) (h : Hold most base start) (slots place word : ℕ) → StaysAfter most base start h (view_after_store slots h.shift.scene.view place word)
    pub finish : (most : ℕ) (base : List ℕ) (start : Machine) (h : Hold most base start) → StaysAfter most base start h (view_after_finish h.shift.scene.view)
    pub leave : (most : ℕ) (base : List ℕ) (start : Machine) (h : Hold most base start) → StaysAfter most base start h (view_after_leave h.shift.scene.view)
    pub load_word : (most : ℕ) (base : List ℕ) (start : Machine) (h : Hold most base start) (place word : ℕ) → StaysAfter most base start h (view_after_load h.shift.scene.view place word)
    pub load_pin : (most : ℕ) (base : List ℕ) (start : Machine) (h : Hold most base start) (k pin : ℕ) → StaysAfter most base start h (view_after_load_pin h.shift.scene.view k pin)
    pub taken : (most : ℕ) (base : List ℕ) (start : Machine) (h : Hold most base start) (slot : ℕ) (listed : Option Listed) → StaysAfter most base start h (view_after_take h.shift.scene.view slot listed)
    pub missed : (most : ℕ) (base : List ℕ) (start : Machine) (h : Hold most base start) → StaysAfter most base start h (view_after_miss h.shift.scene.view)
    pub given : (most : ℕ) (base : List ℕ) (start : Machine) (h : Hold most base start) (slot : ℕ) → StaysAfter most base start h (view_after_give h.shift.scene.view slot)

  pub record StaleSays : Type 0 where
    -- where the slot's turn is free and its value stands for nothing, the held state isn't listed any more
    pub free : (most : ℕ) (base : List ℕ) (start : Machine) (h : Hold most base start) (slot sid : ℕ)
        → Holds policies (policies + states) id_place h.shift.scene.view.pins.shows slot sid → get_elem? h.shift.turns slot ≡ some 0 → h.shift.home slot ≡ Nothing
        → is_listed sid (last_of bucket_of good lists most base start h.shift).shown.states ≡ false
    -- nor is it where the seat holds the turn, and it keeps no state of this id
    pub held : (most : ℕ) (base : List ℕ) (start : Machine) (h : Hold most base start) (sid : ℕ) (e : SlotTurn)
        → Has h.shift.scene.view.own.turns e → Holds policies (policies + states) id_place h.shift.scene.view.pins.shows e.slot sid
        → ((l : Listed) → e.listed ≡ Some l → l.state.sid ≡ sid → ⊥)
        → is_listed sid (last_of bucket_of good lists most base start h.shift).shown.states ≡ false
