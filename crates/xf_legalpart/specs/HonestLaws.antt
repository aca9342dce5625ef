-- An honest receipt may stand where it comes to stand.
use Rattle.std.specs.Prelude.{◌≡◌, ℕ, true, false, List, take, Option, Some}
use Rattle.xf_types.specs.declared.call.Receipt.{Receipt}
use Rattle.xf_types.specs.declared.call.Reply.TheVariants as reply
use Rattle.xf_types.specs.declared.state.Sa.{Sa}
use Rattle.xf_types.specs.Machine.{Machine}
use Rattle.xf_types.specs.History.{MayReply, beginning, moment_of}
use Rattle.xf_late.specs.Rests.{rests_on}
use Rattle.xf_views.specs.declared.view.SlotTurn.{SlotTurn}
use Rattle.xf_views.specs.Hands.{is_same}
use Rattle.xf_views.specs.Log.{Mark, receipts_of}
use Rattle.xf_invariant.specs.Meaning.{Told}
use Rattle.xf_ownpart.specs.Turns.{IsCovered, tried_of}
use Rattle.xf_ownpart.specs.OwnLaws.{Shift, last_of}
use Rattle.xf_legalpart.specs.Honest.{MoveIsHonest, StillIsHonest, TrialIsHonest, SendIsHonest}

-- it may stand after these receipts, and where it rests on a state's own part, one of the turns keeps the state
pub record MayStand (start : Machine) (log : List Mark) (turns : List SlotTurn) (r : Receipt) (one : Option ℕ) : Type 0 where
  pub may : MayReply (moment_of (beginning start) (receipts_of log)) r r.reply
  pub covered : IsCovered turns one

module _ (bucket_of : Sa → ℕ) (good : List ℕ → Told → Type 0) (lists : List ℕ → ℕ → Option (Sa × ℕ)) where
  pub record HonestLaws : Type 0 where
    -- a move
    pub moving : (most : ℕ) (base : List ℕ) (start : Machine) (w : Shift bucket_of good lists most base start) (r : Receipt)
        → w.scene.view.hand.writing ≡ true → w.scene.view.hand.drawn ≡ false → MoveIsHonest good lists w.scene.view r
        → MayStand start w.scene.log w.scene.view.own.turns r (rests_on (last_of bucket_of good lists most base start w).shown r)
    -- another receipt under the turn
    pub still : (most : ℕ) (base : List ℕ) (start : Machine) (w : Shift bucket_of good lists most base start) (r : Receipt)
        → w.scene.view.hand.has_turn ≡ true → w.scene.view.hand.writing ≡ false → StillIsHonest good lists w.scene.view r
        → MayStand start w.scene.log w.scene.view.own.turns r (rests_on (last_of bucket_of good lists most base start w).shown r)
    -- a trial's, at its place, where its read ends the same
    pub trial : (most : ℕ) (base : List ℕ) (start : Machine) (w : Shift bucket_of good lists most base start) (x : ℕ) (r : Receipt)
        → w.scene.view.hand.trial ≡ Some x → is_same w.scene.view.hand.began w.scene.numbers.generation ≡ true → TrialIsHonest good lists w.scene.view r
        → MayStand start (take x w.scene.log) (tried_of w.scene.view.own.turns) r (rests_on (last_of bucket_of good lists most base start w).shown r)
    -- an output under the turn of its state's slot
    pub send : (most : ℕ) (base : List ℕ) (start : Machine) (w : Shift bucket_of good lists most base start) (r : Receipt)
        → SendIsHonest good lists (last_of bucket_of good lists most base start w).shown w.scene.view r
        → MayStand start w.scene.log w.scene.view.own.turns r (rests_on (last_of bucket_of good lists most base start w).shown r)
    -- want of memory, anywhere
    pub wants : (start : Machine) (log : List Mark) (turns : List SlotTurn) (m : Machine) (r : Receipt) → r.reply ≡ reply.NoMemory
        → MayStand start log turns r (rests_on m.shown r)
