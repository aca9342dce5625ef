-- The history after one receipt more, at the end or at the place of a trial.
use Rattle.std.proofs.Common.{◌≡◌, ◌≢◌, ℕ, ◌<◌, true, false, List, [], ◌∷◌, ◌++◌, length, set, take, Some, None, Option, sym, ap, ◌∙◌, subst, ⊎_elim}
use Rattle.std.proofs.lemmas.List.{append-nil}
use mathlib.Core.Option.{some}
use lib.ListN.{get_elem?}
use Rattle.xf_types.specs.declared.call.Receipt.{Receipt}
use Rattle.xf_types.specs.declared.state.Sa.{Sa}
use Rattle.xf_types.specs.Machine.{Machine}
use Rattle.xf_types.specs.Moves.{is_moving}
use Rattle.xf_types.specs.History.{MayReply, IsLegalFrom, IsLegalHistory, beginning, moment_of}
use Rattle.xf_late.specs.Rests.{rests_on}
use Rattle.xf_late.proofs.Late.{legal-more}
use Rattle.xf_views.specs.declared.entry.Entry.{Entry}
use Rattle.xf_views.specs.Hands.{is_same}
use Rattle.xf_views.specs.Log.{Mark, mark, receipt, receipts_of}
use Rattle.xf_views.proofs.Lists.{at_end, at_set}
use Rattle.xf_views.proofs.Logs.{receipts-append}
use Rattle.xf_invariant.specs.Meaning.{Told}
use Rattle.xf_ownpart.specs.Lists.{IsListing}
use Rattle.xf_ownpart.specs.Turns.{IsCovered, tried_of}
use Rattle.xf_ownpart.specs.OwnLaws.{Shift, last_of}
use Rattle.xf_ownpart.proofs.OwnReads.{settle-legal}
use Rattle.xf_legalpart.proofs.Increasing.{increasing}

-- a mark with this receipt has it
receipt-of : (k : ℕ) (sid : Option ℕ) (r q : Receipt) (m : Mark) → mark k sid (Some r) ≡ m → m.receipt ≡ Some q → r ≡ q
receipt-of k sid r q m same got = let two : Some r ≡ Some q = ap (λ (z : Mark). z.receipt) same ∙ got in cc

module _ (bucket_of : Sa → ℕ) (good : List ℕ → Told → Type 0) (lists : List ℕ → ℕ → Option (Sa × ℕ)) (most : ℕ) (base : List ℕ) (start : Machine) (w : Shift bucket_of good lists most base start) where
  pub stands_keeps_legal : (one : Option ℕ) (e : Entry) → let r = receipt w.scene.numbers.draw w.scene.view.worker e in
      MayReply (moment_of (beginning start) (receipts_of w.scene.log)) r r.reply → IsLegalHistory start (receipts_of (w.scene.log ++ mark w.scene.view.worker one (Some r) ∷ []))
  stands_keeps_legal one e may =
      let r = receipt w.scene.numbers.draw w.scene.view.worker e in
      let k = w.scene.view.worker in
      record {
        in_order = increasing (w.scene.log ++ mark k one (Some r) ∷ []) (λ x m q at got.
            ⊎_elim
            (λ (old : (get_elem? w.scene.log x ≡ some m) × (x < length w.scene.log)). (w.scene.turn.numbered x m q old.0 got).0)
            (λ (new : (mark k one (Some r) ≡ m) × (x ≡ length w.scene.log)). ap (λ (z : Receipt). z.number) (sym (receipt-of k one r q m new.0 got)) ∙ (sym w.scene.turn.draws ∙ sym new.1))
            (at_end w.scene.log (mark k one (Some r)) m x at));
        replies =
            subst (IsLegalFrom (beginning start)) (sym (receipts-append w.scene.log (mark k one (Some r))))
            (legal-more (beginning start) (receipts_of w.scene.log) (r ∷ []) w.legal.replies (may, tt));
      }

  pub waits_keeps_legal : IsLegalHistory start (receipts_of (w.scene.log ++ mark w.scene.view.worker None None ∷ []))
  waits_keeps_legal =
      subst (IsLegalHistory start)
      (sym (receipts-append w.scene.log (mark w.scene.view.worker None None) ∙ append-nil (receipts_of w.scene.log))) w.legal

  pub settle_keeps_legal : IsListing good lists → (x : ℕ) (e : Entry) → w.scene.view.hand.trial ≡ Some x → is_same w.scene.view.hand.began w.scene.numbers.generation ≡ true → is_moving e.reply ≡ false
      → let r = receipt x w.scene.view.worker e in
      let one = rests_on (last_of bucket_of good lists most base start w).shown r in
      MayReply (moment_of (beginning start) (receipts_of (take x w.scene.log))) r r.reply → IsCovered (tried_of w.scene.view.own.turns) one
      → IsLegalHistory start (receipts_of (set w.scene.log x (mark w.scene.view.worker one (Some r))))
  settle_keeps_legal all x e trial same still may covered =
      let r = receipt x w.scene.view.worker e in
      let k = w.scene.view.worker in
      let one = rests_on (last_of bucket_of good lists most base start w).shown r in
      record {
        in_order = increasing (set w.scene.log x (mark k one (Some r))) (λ y m q at got.
            ⊎_elim
            (λ (new : (y ≡ x) × (mark k one (Some r) ≡ m)). ap (λ (z : Receipt). z.number) (sym (receipt-of k one r q m new.1 got)) ∙ sym new.0)
            (λ (old : (y ≢ x) × (get_elem? w.scene.log y ≡ some m)). (w.scene.turn.numbered y m q old.1 got).0)
            (at_set w.scene.log x y (mark k one (Some r)) m at));
        replies = settle-legal bucket_of good lists all most base start w x trial same e still may covered;
      }
