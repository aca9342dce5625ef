-- Steps that leave all pins and holds.
use Rattle.std.proofs.Common.{◌≡◌, ℕ, ◌+◌, ◌<◌, ◌≤◌, true, false, true≢false, List, set, refl, sym, arith, Option}
use Rattle.std.specs.Prelude.{slice_index}
use mathlib.Core.Option.{some, some-ne-none}
use lib.ListN.{get_elem?}
use Rattle.xf_types.specs.declared.call.Receipt.{Receipt}
use Rattle.xf_views.specs.declared.entry.Listed.{Listed}
use Rattle.xf_views.specs.declared.view.View.{View}
use Rattle.xf_views.specs.declared.view.SlotTurn.{SlotTurn}
use Rattle.xf_views.specs.Log.{Numbers, Mark}
use Rattle.xf_views.specs.Hands.{loaded_since}
use Rattle.xf_views.specs.Views.{view_after_ticket, view_after_serving, view_after_begin, view_after_draw, view_after_trial, view_after_finish, view_after_leave, view_after_load, view_after_take, view_after_miss, view_after_give}
use Rattle.xf_views.specs.TurnPart.{TurnPart}
use Rattle.xf_invariant.specs.PinPart.{Has, PinPart}
use Rattle.xf_invariant.proofs.PinSeats.{seat_row, still_row}

module _ (policies slots : ℕ) (id_place : ℕ → ℕ) (most made : ℕ) (n : Numbers) (owners : List ℕ) (log : List Mark) (words settled pins : List ℕ) (views : List View)
    (a : TurnPart most made n owners log views) (c : PinPart policies slots id_place n.generation words settled pins views) (i : ℕ) (v : View) (at : get_elem? views i ≡ some v) (here : v.here ≡ true) where
  abbrev Part : ℕ → List ℕ → List View → Type 0
  Part g image seats = PinPart policies slots id_place g image settled pins seats

  stays : (w : View) → w.here ≡ v.here → w.worker ≡ v.worker → w.hand.pin ≡ v.hand.pin → w.pins.shows ≡ v.pins.shows
      → (w.hand.has_turn ≡ true → (s : ℕ) (p : ℕ × ℕ) → Has (loaded_since s w.hand) p → (v.hand.has_turn ≡ true) × Has (loaded_since s v.hand) p)
      → (w.hand.writing ≡ true → (s : ℕ) → Has w.pins.fresh s → (v.hand.writing ≡ true) × Has v.pins.fresh s)
      → Part n.generation words (set views i w)
  stays = still_row policies slots id_place most made n owners log words settled pins views a c i v at here

  pub ticket_keeps_pins : (t : ℕ) → Part n.generation words (set views i (view_after_ticket v t))
  ticket_keeps_pins t = stays (view_after_ticket v t) refl refl refl refl (λ h s p seen. (h, seen)) (λ h s seen. (h, seen))

  -- with the turn that begins, no pin word was loaded in it
  pub serving_keeps_pins : (serving : ℕ) (image : List ℕ) → v.hand.has_turn ≡ false → Part n.generation words (set views i (view_after_serving v serving image))
  serving_keeps_pins serving image off = stays (view_after_serving v serving image) refl refl refl refl (λ h s p seen. absurd (some-ne-none p (sym seen.1))) (λ h s seen. (h, seen))

  pub begin_keeps_pins : Part (n.generation + 1) words (set views i (view_after_begin v))
  begin_keeps_pins = seat_row policies slots id_place most made n owners log words settled pins views a c i v at here (n.generation + 1) settled (view_after_begin v) (omega arith) (λ j u e hu s x hold. refl) refl refl refl refl (λ h s p seen. (h, seen)) (λ h s seen. absurd (some-ne-none s (sym seen.1)))

  pub finish_keeps_pins : Part (n.generation + 1) words (set views i (view_after_finish v))
  finish_keeps_pins = seat_row policies slots id_place most made n owners log words settled pins views a c i v at here (n.generation + 1) settled (view_after_finish v) (omega arith) (λ j u e hu s x hold. refl) refl refl refl refl (λ h s p seen. (h, seen)) (λ h s seen. absurd (true≢false (sym h)))

  pub leave_keeps_pins : Part n.generation words (set views i (view_after_leave v))
  leave_keeps_pins = stays (view_after_leave v) refl refl refl refl (λ h s p seen. absurd (true≢false (sym h))) (λ h s seen. (h, seen))

  -- the image becomes the settled one: what is held wasn't listed in this opening, so it has the id that it had
  pub move_keeps_pins : (all : List Receipt) (r : Receipt) (turns : List SlotTurn) → v.hand.writing ≡ true
      → ((s : ℕ) → policies ≤ s → s < slots → (Has v.pins.fresh s → ⊥) → slice_index words (id_place s) ≡ slice_index settled (id_place s))
      → PinPart policies slots id_place n.generation words words pins (set views i (view_after_draw v true all r turns))
  move_keeps_pins all r turns writing ids = seat_row policies slots id_place most made n owners log words settled pins views a c i v at here n.generation words (view_after_draw v true all r turns) (omega arith)
      (λ j u e hu s x hold. ids s hold.4 hold.5 (λ seen. c.fresh i j v u at here writing e hu s x seen hold)) refl refl refl refl (λ h s p seen. (h, seen)) (λ h s seen. (h, seen))

  pub still_keeps_pins : (all : List Receipt) (r : Receipt) (turns : List SlotTurn) → Part n.generation words (set views i (view_after_draw v false all r turns))
  still_keeps_pins all r turns = stays (view_after_draw v false all r turns) refl refl refl refl (λ h s p seen. (h, seen)) (λ h s seen. (h, seen))

  pub try_keeps_pins : (x : ℕ) (all : List Receipt) → Part n.generation words (set views i (view_after_trial v x all))
  try_keeps_pins x all = stays (view_after_trial v x all) refl refl refl refl (λ h s p seen. (h, seen)) (λ h s seen. (h, seen))

  pub load_keeps_pins : (place word : ℕ) → Part n.generation words (set views i (view_after_load v place word))
  load_keeps_pins place word = stays (view_after_load v place word) refl refl refl refl (λ h s p seen. (h, seen)) (λ h s seen. (h, seen))

  pub take_keeps_pins : (slot : ℕ) (listed : Option Listed) → Part n.generation words (set views i (view_after_take v slot listed))
  take_keeps_pins slot listed = stays (view_after_take v slot listed) refl refl refl refl (λ h s p seen. (h, seen)) (λ h s seen. (h, seen))

  pub miss_keeps_pins : Part n.generation words (set views i (view_after_miss v))
  miss_keeps_pins = stays (view_after_miss v) refl refl refl refl (λ h s p seen. (h, seen)) (λ h s seen. (h, seen))

  pub give_keeps_pins : (slot : ℕ) → Part n.generation words (set views i (view_after_give v slot))
  give_keeps_pins slot = stays (view_after_give v slot) refl refl refl refl (λ h s p seen. (h, seen)) (λ h s seen. (h, seen))
