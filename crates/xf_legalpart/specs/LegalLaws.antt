-- What is said of each step that changes the history: it stays legal. Every other step leaves the receipts.
use Rattle.std.specs.Prelude.{◌≡◌, ℕ, true, false, List, [], ◌∷◌, ◌++◌, take, Option, Some, None}
use Rattle.std.proofs.Common.{set}
use Rattle.xf_types.specs.declared.state.Sa.{Sa}
use Rattle.xf_types.specs.Machine.{Machine}
use Rattle.xf_types.specs.Moves.{is_moving}
use Rattle.xf_types.specs.History.{MayReply, IsLegalHistory, beginning, moment_of}
use Rattle.xf_late.specs.Rests.{rests_on}
use Rattle.xf_views.specs.declared.entry.Entry.{Entry}
use Rattle.xf_views.specs.Hands.{is_same}
use Rattle.xf_views.specs.Log.{mark, receipt, receipts_of}
use Rattle.xf_invariant.specs.Meaning.{Told}
use Rattle.xf_ownpart.specs.Turns.{IsCovered, tried_of}
use Rattle.xf_ownpart.specs.OwnLaws.{Shift, last_of}

module _ (bucket_of : Sa → ℕ) (good : List ℕ → Told → Type 0) (lists : List ℕ → ℕ → Option (Sa × ℕ)) where
  pub record DrawKeepsLegal : Type 0 where
    -- one receipt more, which may stand after all others
    pub stands : (most : ℕ) (base : List ℕ) (start : Machine) (w : Shift bucket_of good lists most base start) (one : Option ℕ) (e : Entry)
        → let r = receipt w.scene.numbers.draw w.scene.view.worker e in
        MayReply (moment_of (beginning start) (receipts_of w.scene.log)) r r.reply
        → IsLegalHistory start (receipts_of (w.scene.log ++ mark w.scene.view.worker one (Some r) ∷ []))
    -- a number without a receipt
    pub waits : (most : ℕ) (base : List ℕ) (start : Machine) (w : Shift bucket_of good lists most base start)
        → IsLegalHistory start (receipts_of (w.scene.log ++ mark w.scene.view.worker None None ∷ []))

  -- a trial's receipt that may stand at its place, and where it rests on a state's own part, a turn keeps the state that was held at the draw
  abbrev pub LoadGenerationKeepsLegal : Type 0
  LoadGenerationKeepsLegal =
      (most : ℕ) (base : List ℕ) (start : Machine) (w : Shift bucket_of good lists most base start) (x : ℕ) (e : Entry)
      → w.scene.view.hand.trial ≡ Some x → is_same w.scene.view.hand.began w.scene.numbers.generation ≡ true → is_moving e.reply ≡ false
      → let r = receipt x w.scene.view.worker e in
      let one = rests_on (last_of bucket_of good lists most base start w).shown r in
      MayReply (moment_of (beginning start) (receipts_of (take x w.scene.log))) r r.reply
      → IsCovered (tried_of w.scene.view.own.turns) one
      → IsLegalHistory start (receipts_of (set w.scene.log x (mark w.scene.view.worker one (Some r))))
