-- A packet or an output as a whole run of a pass: from a rest to a rest, with one receipt more.
use Rattle.std.specs.Prelude.{◌≡◌, ◌⊎◌, ℕ, ◌+◌, false, List, [], ◌∷◌, ◌++◌}
use Rattle.xf_types.specs.declared.call.Call.{Call}
use Rattle.xf_types.specs.declared.call.Place.{Place}
use Rattle.xf_types.specs.declared.call.Receipt.{Receipt}
use Rattle.xf_types.specs.declared.call.Reply.{Reply}
use Rattle.xf_types.specs.declared.call.Reply.TheVariants as reply
use Rattle.xf_types.specs.History.{is_contended}
use Rattle.xf_types.specs.IsMachine.{IsMachine}
use Rattle.xf_types.specs.Machine.{Machine}
use Rattle.xf_types.specs.Steps.{step}
use Rattle.xf_views.specs.Log.{AreBelow, IsFront}
use Rattle.xf_invariant.specs.Meaning.{Told}
use Rattle.xf_meaning.specs.Good.{Good}
use Rattle.xf_values.specs.declared.state_value.StateValue.{StateValue}
use Rattle.xf_live.specs.Passes.{PassView}
use Rattle.xf_serve.specs.Served.{Rests, words_before}

-- a machine for which the words stand gives this reply, or memory was wanting
pub record RepliesOne (p s : ℕ) (image : List ℕ) (c : Call) (r : Reply) : Type 0 where
  pub told : Told
  pub machine : Machine
  pub is : IsMachine machine
  pub shown : told.shown ≡ machine.shown
  pub good : Good p s image told
  pub reply_is : (r ≡ reply.NoMemory) ⊎ (r ≡ (step machine c).reply)

-- From one rest to the next the pass recorded one receipt, of this call at this place. Its number is greater than all that the pass had and than
-- those of the moves that it had seen; it drew a ticket and this number. The reply is that of a machine for which the words stood under the turn, and
-- none that comes of other threads.
pub record Handled (at : Place) (c : Call) (p q : PassView StateValue) : Type 0 where
  pub rests : Rests q
  pub table : q.table ≡ p.table
  pub room : q.room ≡ p.room
  pub life : q.view.life ≡ p.view.life
  pub worker : q.view.worker ≡ p.view.worker
  pub receipt : Receipt
  pub receipts : q.view.knows.mine ≡ p.view.knows.mine ++ receipt ∷ []
  pub at_is : receipt.at ≡ at
  pub call_is : receipt.call ≡ c
  pub worker_is : receipt.worker ≡ p.view.worker
  pub later : AreBelow receipt.number p.view.knows.mine
  pub after : AreBelow receipt.number p.view.knows.seen
  pub seen : IsFront p.view.knows.seen q.view.knows.seen
  pub drawn : q.view.knows.count ≡ p.view.knows.count + 2
  pub settled : is_contended receipt.reply ≡ false
  pub replies : RepliesOne p.view.life.start.policies p.view.life.start.states (words_before q.view receipt.reply) c receipt.reply
