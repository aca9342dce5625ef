-- A call as a whole run of a pass: from a rest to a rest, with one receipt more.
use Rattle.std.specs.Prelude.{◌≡◌, ◌⊎◌, ℕ, ◌+◌, ◌<◌, ◌≤◌, ◌^◌, false, List, [], ◌∷◌, ◌++◌, length, if◌then◌else◌}
use Rattle.xf_types.specs.declared.call.Call.{Call}
use Rattle.xf_types.specs.declared.call.Place.{Place}
use Rattle.xf_types.specs.declared.call.Receipt.{Receipt}
use Rattle.xf_types.specs.declared.call.Reply.{Reply}
use Rattle.xf_types.specs.declared.call.Reply.TheVariants as reply
use Rattle.xf_types.specs.History.{is_contended}
use Rattle.xf_types.specs.IsMachine.{IsMachine}
use Rattle.xf_types.specs.Machine.{Machine}
use Rattle.xf_types.specs.Moves.{is_moving}
use Rattle.xf_types.specs.Steps.{step}
use Rattle.xf_views.specs.declared.view.View.{View}
use Rattle.xf_views.specs.Log.{AreBelow, IsFront}
use Rattle.xf_invariant.specs.Meaning.{Told}
use Rattle.xf_meaning.specs.Good.{Good}
use Rattle.xf_meaning.specs.Places.{size_of}
use Rattle.xf_values.specs.declared.state_value.StateValue.{StateValue}
use Rattle.xf_live.specs.Passes.{LiveView, PassView, IsIdle}

-- a table with so many slots of policies and of states, and the words that these take
pub record IsTableOf (policies states : ℕ) (l : LiveView) : Type 0 where
  pub policies_are : l.start.policies ≡ policies
  pub states_are : l.start.states ≡ states
  pub some_policies : 1 ≤ policies
  pub most_policies : policies ≤ 4096
  pub some_states : 1 ≤ states
  pub most_states : states ≤ 8192
  pub count : l.count ≡ size_of policies states
  pub words : length l.start.words ≡ size_of policies states

-- it has no ticket, no turn and no slot's turn, and began nothing
pub record Rests (p : PassView StateValue) : Type 0 where
  pub idle : IsIdle p.view
  pub values : p.values ≡ []

-- a receipt more may be recorded
pub record HasSpare (p : PassView StateValue) : Type 0 where
  pub room : length p.view.knows.mine < p.room
  pub early : p.view.knows.count < 2 ^ 40

-- memory was wanting, or the reply is that of each machine for which the words stand
abbrev pub RepliesBy : ℕ → ℕ → List ℕ → Call → Reply → Type 0
RepliesBy p s image c r =
    (r ≡ reply.NoMemory) ⊎ ((t : Told) (m : Machine) → IsMachine m → Good p s image t → t.shown ≡ m.shown → r ≡ (step m c).reply)

-- the words for which it is given: those that a move found, and else those that stay
abbrev pub words_before : View → Reply → List ℕ
words_before v r = if is_moving r then v.image.kept else v.image.words

-- some machine stands for the words, and they are for its whole shown part
pub record AreTold (p s : ℕ) (image : List ℕ) : Type 0 where
  pub told : Told
  pub machine : Machine
  pub is : IsMachine machine
  pub shown : told.shown ≡ machine.shown
  pub good : Good p s image told

-- From one rest to the next the pass recorded one receipt, of this call at this place. Its number is greater than all that the pass had and than
-- those of the moves that it had seen; it drew a ticket and this number. The reply is the machine's for which the words stood under the turn, and none
-- that comes of other threads.
pub record Served (at : Place) (c : Call) (p q : PassView StateValue) : Type 0 where
  pub rests : Rests q
  pub table : q.table ≡ p.table
  pub room : q.room ≡ p.room
  pub life : q.view.life ≡ p.view.life
  pub worker : q.view.worker ≡ p.view.worker
  pub receipt : Receipt
  pub receipts : q.view.knows.mine ≡ p.view.knows.mine ++ receipt ∷ []
  pub at_is : receipt.at ≡ at
  pub call_is : receipt.call ≡ c
  pub worker_is : receipt.worker ≡ p.view.worker
  pub later : AreBelow receipt.number p.view.knows.mine
  pub after : AreBelow receipt.number p.view.knows.seen
  pub seen : IsFront p.view.knows.seen q.view.knows.seen
  pub drawn : q.view.knows.count ≡ p.view.knows.count + 2
  pub settled : is_contended receipt.reply ≡ false
  pub told : AreTold p.view.life.start.policies p.view.life.start.states (words_before q.view receipt.reply)
  pub replies : RepliesBy p.view.life.start.policies p.view.life.start.states (words_before q.view receipt.reply) c receipt.reply
