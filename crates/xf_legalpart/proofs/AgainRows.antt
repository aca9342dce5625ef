-- Each step keeps the part on overtaken reads.
use Rattle.std.proofs.Common.{◌≡◌, ◌≢◌, ℕ, ◌+◌, ◌/◌, ◌%◌, ◌≤◌, true, false, true≢false, List, [], ◌∷◌, ◌++◌, length, set, Some, None, Option, refl, sym, ap, ◌∙◌, subst, arith}
use mathlib.Core.Option.{some}
use lib.ListN.{get_elem?}
use Rattle.xf_types.specs.declared.call.Receipt.{Receipt}
use Rattle.xf_types.specs.declared.state.Sa.{Sa}
use Rattle.xf_types.specs.Moves.{is_moving}
use Rattle.xf_views.specs.declared.entry.Entry.{Entry}
use Rattle.xf_views.specs.declared.view.View.{View}
use Rattle.xf_views.specs.declared.view.Start.{Start}
use Rattle.xf_views.specs.declared.view.SlotTurn.{SlotTurn}
use Rattle.xf_views.specs.Starts.{first_view, first_views}
use Rattle.xf_views.specs.Log.{Mark, mark, receipt, moves}
use Rattle.xf_views.specs.Views.{view_after_begin, view_after_draw, view_after_trial, view_after_finish, view_after_generation, overtaken_after}
use Rattle.xf_views.proofs.Beginnings.{at_first}
use Rattle.xf_views.proofs.Seats.{each_set, other_worker}
use Rattle.xf_views.proofs.Late.{moves_settle}
use Rattle.xf_invariant.specs.Meaning.{Told}
use Rattle.xf_legalpart.specs.AgainPart.{before_last, AreOvertaken, IsInAgain, AgainPart}
use Rattle.xf_legalpart.specs.AgainLaws.{Account}
use Rattle.xf_legalpart.proofs.Pasts.{before-other, before-blank, before-settled}
use Rattle.xf_legalpart.proofs.Overtaken.{overtaken-raise, overtaken-read}

pub again_begins : (made : ℕ) (start : Start) → AgainPart 0 [] (first_views start made)
again_begins made start = record {
  each = λ i v at h. subst (IsInAgain 0 []) (sym (at_first start made i v at).1) (fits i);
}
  where
    fits : (i : ℕ) → IsInAgain 0 [] (first_view start i 0)
    fits i = record { counted = tt; current = λ b anew. absurd (true≢false (sym anew)) }

-- with another log in which as many moves stand before a seat's last receipt
other-log : (g : ℕ) (log new : List Mark) (u : View) → before_last u.worker new ≡ before_last u.worker log → IsInAgain g log u → IsInAgain g new u
other-log g log new u same f = record {
  counted = subst (λ low. AreOvertaken low u.knows.overtaken g) (sym same) f.counted;
  current = λ b anew began even. subst (λ low. (low ≤ b) × AreOvertaken low u.knows.overtaken b) (sym same) (f.current b anew began even);
}

-- at a later generation
later-seat : (g : ℕ) (log : List Mark) (u : View) → IsInAgain g log u → IsInAgain (g + 1) log u
later-seat g log u f = record { counted = overtaken-raise (before_last u.worker log) u.knows.overtaken g (g + 1) (omega arith) f.counted; current = f.current }

module _ (bucket_of : Sa → ℕ) (good : List ℕ → Told → Type 0) (most : ℕ) (base : List ℕ) (c : Account bucket_of good most base) where
  abbrev v : View
  v = c.scene.view

  abbrev g : ℕ
  g = c.scene.numbers.generation

  abbrev log : List Mark
  log = c.scene.log

  pub mine : IsInAgain g log v
  mine = c.again.each c.scene.seat v c.scene.there c.scene.here

  others : (j : ℕ) (u : View) → j ≢ c.scene.seat → get_elem? c.scene.views j ≡ some u → u.here ≡ true → v.worker ≢ u.worker
  others = other_worker most c.scene.made c.scene.numbers c.scene.owners log c.scene.views c.scene.turn c.scene.seat v c.scene.there c.scene.here

  pub quiet : (z : View) → IsInAgain g log z → AgainPart g log (set c.scene.views c.scene.seat z)
  quiet z fits = record { each = each_set c.scene.views c.scene.seat v z c.scene.there (IsInAgain g log) (λ j u apart at h. c.again.each j u at h) fits }

  pub later_keeps_again : (z : View) → IsInAgain (g + 1) log z → AgainPart (g + 1) log (set c.scene.views c.scene.seat z)
  later_keeps_again z fits = record { each = each_set c.scene.views c.scene.seat v z c.scene.there (IsInAgain (g + 1) log) (λ j u apart at h. later-seat g log u (c.again.each j u at h)) fits }

  pub begin_keeps_again : AgainPart (g + 1) log (set c.scene.views c.scene.seat (view_after_begin v))
  begin_keeps_again = later_keeps_again (view_after_begin v) (later-seat g log v mine)

  pub finish_keeps_again : AgainPart (g + 1) log (set c.scene.views c.scene.seat (view_after_finish v))
  finish_keeps_again = later_keeps_again (view_after_finish v) (later-seat g log v mine)

  -- a receipt of the seat's own
  pub stands_keeps_again : (moves_now : List Receipt) (one : Option ℕ) (e : Entry) (turns : List SlotTurn)
      → let r = receipt c.scene.numbers.draw v.worker e in
      AgainPart g (log ++ mark v.worker one (Some r) ∷ []) (set c.scene.views c.scene.seat (view_after_draw v (is_moving e.reply) moves_now r turns))
  stands_keeps_again moves_now one e turns =
      let r = receipt c.scene.numbers.draw v.worker e in
      let new = log ++ mark v.worker one (Some r) ∷ [] in
      let z = view_after_draw v (is_moving e.reply) moves_now r turns in
      record {
        each = each_set c.scene.views c.scene.seat v z c.scene.there (IsInAgain g new)
            (λ j u apart at h. other-log g log new u (before-other u.worker v.worker log one r (others j u apart at h)) (c.again.each j u at h))
            record { counted = tt; current = λ b anew. absurd (true≢false (sym anew)) };
      }

  pub waits_keeps_again : (moves_now : List Receipt)
      → AgainPart g (log ++ mark v.worker None None ∷ []) (set c.scene.views c.scene.seat (view_after_trial v c.scene.numbers.draw moves_now))
  waits_keeps_again moves_now =
      let new = log ++ mark v.worker None None ∷ [] in
      let z = view_after_trial v c.scene.numbers.draw moves_now in
      record {
        each = each_set c.scene.views c.scene.seat v z c.scene.there (IsInAgain g new)
            (λ j u apart at h. other-log g log new u (before-blank u.worker v.worker log) (c.again.each j u at h))
            (other-log g log new v (before-blank v.worker v.worker log) mine);
      }

  -- at an even generation all moves stand for it
  low-now : (k : ℕ) (new : List Mark) → moves new ≡ moves log → g % 2 ≡ 0 → before_last k new ≤ g
  low-now k new same even =
      let m : length (moves new) ≡ g / 2 = ap length same ∙ c.scene.turn.even even in
      omega arith

  -- the read ends
  pub blank_keeps_again : (moves_now : List Receipt) (turns : List SlotTurn) → AgainPart g log (set c.scene.views c.scene.seat (view_after_generation v g moves_now [] turns))
  blank_keeps_again moves_now turns =
      let pairs = overtaken_after v.knows.anew v.hand.trial v.hand.began g v.knows.overtaken in
      let all : AreOvertaken (before_last v.worker log) pairs g = overtaken-read v.knows.anew v.hand.trial v.hand.began g v.knows.overtaken (before_last v.worker log) mine.counted mine.current in
      quiet (view_after_generation v g moves_now [] turns) record {
        counted = all;
        current = λ b anew began even.
            let same : g ≡ b = cc in (
              subst (λ n. before_last v.worker log ≤ n) same (low-now v.worker log refl (ap (λ n. n % 2) same ∙ even)),
              subst (AreOvertaken (before_last v.worker log) pairs) same all,
            );
      }

  pub settled_keeps_again : (x : ℕ) (one : Option ℕ) (e : Entry) (moves_now : List Receipt) (turns : List SlotTurn) → v.hand.trial ≡ Some x → is_moving e.reply ≡ false
      → let r = receipt x v.worker e in
      AgainPart g (set log x (mark v.worker one (Some r))) (set c.scene.views c.scene.seat (view_after_generation v g moves_now (r ∷ []) turns))
  settled_keeps_again x one e moves_now turns trial still =
      let r = receipt x v.worker e in
      let new = set log x (mark v.worker one (Some r)) in
      let at_x = ((c.scene.turn.each c.scene.seat v c.scene.there c.scene.here).trial x trial).0 in
      let z = view_after_generation v g moves_now (r ∷ []) turns in
      record {
        each = each_set c.scene.views c.scene.seat v z c.scene.there (IsInAgain g new)
            (λ j u apart at h. other-log g log new u (before-settled u.worker v.worker log x one r at_x still (λ same. others j u apart at h (sym same))) (c.again.each j u at h))
            record {
              counted = tt;
              current = λ b anew began even.
                  let same : g ≡ b = cc in
                  (subst (λ n. before_last v.worker new ≤ n) same (low-now v.worker new (moves_settle v.worker log x one r at_x still) (ap (λ n. n % 2) same ∙ even)), tt);
            };
      }
