-- No more slots are retired than records were removed; and a list that is full while slots wait.
use Rattle.std.specs.Prelude.{◌≡◌, ℕ, ◌+◌, ◌<◌, ◌≤◌, ◌⊎◌, true, false, List, [], ◌∷◌, ◌++◌, take, Option, Some, None, MatchBool, slice_index}
use Rattle.std.proofs.Common.{set}
use Rattle.xf_types.specs.declared.call.Receipt.{Receipt}
use Rattle.xf_types.specs.declared.call.Reply.TheVariants as reply
use Rattle.xf_types.specs.declared.state.Sa.{Sa}
use Rattle.xf_types.specs.Machine.{Machine}
use Rattle.xf_types.specs.Moves.{is_moving}
use Rattle.xf_types.specs.Steps.{step}
use Rattle.xf_types.specs.History.{MayReply, adds_policy, with_policies, with_states, beginning, moment_of}
use Rattle.xf_types.specs.IsMachine.{IsMachine}
use Rattle.xf_late.specs.Rests.{rests_on}
use Rattle.xf_views.specs.declared.entry.Entry.{Entry}
use Rattle.xf_views.specs.declared.view.View.{View}
use Rattle.xf_views.specs.Hands.{is_same}
use Rattle.xf_views.specs.Log.{Mark, mark, receipt, receipts_of, moves}
use Rattle.xf_invariant.specs.Meaning.{Told, told_after, told_after_moves, Opens}
use Rattle.xf_ownpart.specs.Turns.{IsCovered, tried_of}
use Rattle.xf_ownpart.specs.OwnLaws.{Shift, last_of}
use Rattle.xf_retired.specs.Pools.{listed_slots, retired_slots, sid_at}

-- what a move leaves of the slots of a list: a record that stays listed keeps its slot, and a slot that is retired was listed or retired
-- before
pub record KeepsPool (at : List ℕ → ℕ → Option ℕ) (first size : ℕ) (old new : List ℕ) : Type 0 where
  pub stays : (j k n : ℕ) → at old j ≡ Some n → at new k ≡ Some n → j ≡ k
  pub retires : (slot : ℕ) → first ≤ slot → slot < first + size → 2 ≤ slice_index new slot → (slice_index old slot ≡ 1) ⊎ (2 ≤ slice_index old slot)

module _ (policies states : ℕ) where
  -- in each list no more slots are retired in the settled image than the receipts removed records
  pub record RetiredPart (start : Machine) (log : List Mark) (settled : List ℕ) : Type 0 where
    pub few_policies : retired_slots settled 0 policies ≤ (moment_of (beginning start) (receipts_of log)).policies_removed
    pub few_states : retired_slots settled policies states ≤ (moment_of (beginning start) (receipts_of log)).states_removed

  -- where no status is greater than 1
  abbrev pub RetiredBegin : Type 0
  RetiredBegin = (start : Machine) (base : List ℕ) → ((slot : ℕ) → slot < policies + states → slice_index base slot ≤ 1) → RetiredPart start [] base

module _ (bucket_of : Sa → ℕ) (good : List ℕ → Told → Type 0) (lists : List ℕ → ℕ → Option (Sa × ℕ)) (index_at : List ℕ → ℕ → Option ℕ) (policies states : ℕ) where
  pub record DrawKeepsRetired : Type 0 where
    -- a move
    pub moving : (most : ℕ) (base : List ℕ) (start : Machine) (w : Shift bucket_of good lists most base start) (one : Option ℕ) (e : Entry)
        → w.scene.view.hand.has_turn ≡ true → w.scene.view.hand.writing ≡ true → w.scene.view.hand.drawn ≡ false → w.scene.view.hand.trial ≡ None
        → is_moving e.reply ≡ true
        → let v = w.scene.view in
        let all = moves w.scene.log in
        let r = receipt w.scene.numbers.draw v.worker e in
        MayReply (moment_of (beginning start) (receipts_of w.scene.log)) r r.reply
        → ((t : Told) → Opens good base t → good v.image.kept (told_after_moves bucket_of t all) → good v.image.words (told_after bucket_of (told_after_moves bucket_of t all) r))
        → KeepsPool index_at 0 policies v.image.kept v.image.words
        → KeepsPool (sid_at lists) policies states v.image.kept v.image.words
        → RetiredPart policies states start w.scene.log w.scene.settled
        → RetiredPart policies states start (w.scene.log ++ mark v.worker one (Some r) ∷ []) w.scene.words
    -- another receipt, and a number without one
    pub still : (start : Machine) (log : List Mark) (settled : List ℕ) (k : ℕ) (one : Option ℕ) (r : Receipt) → RetiredPart policies states start log settled
        → RetiredPart policies states start (log ++ mark k one (Some r) ∷ []) settled
    pub waits : (start : Machine) (log : List Mark) (settled : List ℕ) (k : ℕ) → RetiredPart policies states start log settled
        → RetiredPart policies states start (log ++ mark k None None ∷ []) settled

module _ (bucket_of : Sa → ℕ) (good : List ℕ → Told → Type 0) (lists : List ℕ → ℕ → Option (Sa × ℕ)) (policies states : ℕ) where
  -- a trial's receipt comes to stand
  abbrev pub LoadGenerationKeepsRetired : Type 0
  LoadGenerationKeepsRetired =
      (most : ℕ) (base : List ℕ) (start : Machine) (w : Shift bucket_of good lists most base start) (x : ℕ) (e : Entry)
      → w.scene.view.hand.trial ≡ Some x → is_same w.scene.view.hand.began w.scene.numbers.generation ≡ true → is_moving e.reply ≡ false
      → let r = receipt x w.scene.view.worker e in
      let one = rests_on (last_of bucket_of good lists most base start w).shown r in
      MayReply (moment_of (beginning start) (receipts_of (take x w.scene.log))) r r.reply
      → IsCovered (tried_of w.scene.view.own.turns) one
      → RetiredPart policies states start w.scene.log w.scene.settled
      → RetiredPart policies states start (set w.scene.log x (mark w.scene.view.worker one (Some r))) w.scene.settled

  -- each slot of the list is listed or retired, and live and waiting are their numbers; each machine for which the image stands answers that it is
  -- full, with the list's capacity lowered so
  pub record IsFull (lowered : Machine → ℕ → Machine) (first size : ℕ) (v : View) (r : Receipt) (live waiting : ℕ) : Type 0 where
    pub taken : (slot : ℕ) → first ≤ slot → slot < first + size → (slice_index v.image.words slot ≡ 1) ⊎ (2 ≤ slice_index v.image.words slot)
    pub live_is : live ≡ listed_slots v.image.words first size
    pub waiting_is : waiting ≡ retired_slots v.image.words first size
    pub full : (m : Machine) (t : Told) → IsMachine m → t.shown ≡ m.shown → good v.image.words t → (step (lowered m live) r.call).reply ≡ reply.Full live 0

  abbrev pub IsFullReply : View → Receipt → ℕ → ℕ → Type 0
  IsFullReply v r live waiting =
      MatchBool (adds_policy r.call) (IsFull with_policies 0 policies v r live waiting) (IsFull with_states policies states v r live waiting)

  -- under the turn
  abbrev pub FullWithWaiting : Type 0
  FullWithWaiting =
      (most : ℕ) (base : List ℕ) (start : Machine) (w : Shift bucket_of good lists most base start) (r : Receipt) (live waiting : ℕ)
      → w.scene.view.hand.has_turn ≡ true → w.scene.view.hand.writing ≡ false → 1 ≤ waiting → r.reply ≡ reply.Full live waiting
      → IsFullReply w.scene.view r live waiting → RetiredPart policies states start w.scene.log w.scene.settled
      → MayReply (moment_of (beginning start) (receipts_of w.scene.log)) r r.reply
