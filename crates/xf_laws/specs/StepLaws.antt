-- Laws of the machine that follow from the rules.
use Rattle.std.specs.Prelude.{◌≡◌, ℕ, Bool, true, false, ◌==◌, List, IsTrue}
use Rattle.xf_types.specs.declared.state.Sa.{Sa}
use Rattle.xf_types.specs.declared.call.Call.{Call}
use Rattle.xf_types.specs.declared.call.Call.TheVariants as call
use Rattle.xf_types.specs.declared.call.Reply.{Reply}
use Rattle.xf_types.specs.declared.call.Reply.TheVariants as reply
use Rattle.xf_types.specs.Machine.{Machine, Shown, Own}
use Rattle.xf_types.specs.Changes.{Answer, applied, shown_after}
use Rattle.xf_types.specs.Codes.{is_refusal_of}
use Rattle.xf_types.specs.OwnParts.{own_of, own_in}
use Rattle.xf_types.specs.TrafficRules.{Treated, Becomes}
use Rattle.xf_types.specs.OneState.{on_state, put_back}
use Rattle.xf_types.specs.Steps.{step}
use Rattle.xf_types.specs.History.{is_contended, is_exception}
use Rattle.xf_types.specs.Moves.{is_moving, after_move}

-- the machine of these two parts
abbrev pub beside : Shown → List Own → Machine
beside s own = record { shown = s; own = own }

-- a rule of one state (a packet's and an output's are such rules): the reply, what is shown afterwards and the state's fate
-- rest on the shown part and on that state's own part, and a fate that doesn't end the state leaves each other own part
pub record OneStateLaws : Type 0 where
  pub reply : (s : Shown) (a b : List Own) (x : Sa) (rule : ℕ → Sa → Own → Treated)
      → own_in (beside s a) x ≡ own_in (beside s b) x
      → (on_state (beside s a) x rule).reply ≡ (on_state (beside s b) x rule).reply
  pub shown : (s : Shown) (a b : List Own) (x : Sa) (rule : ℕ → Sa → Own → Treated)
      → own_in (beside s a) x ≡ own_in (beside s b) x
      → (on_state (beside s a) x rule).machine.shown ≡ (on_state (beside s b) x rule).machine.shown
  pub fate : (s : Shown) (a b : List Own) (x : Sa) (rule : ℕ → Sa → Own → Treated)
      → own_in (beside s a) x ≡ own_in (beside s b) x
      → (rule s.time x (own_in (beside s a) x)).fate ≡ (rule s.time x (own_in (beside s b) x)).fate
  pub others : (m : Machine) (x : Sa) (soft : Bool) (own : Own) (sid : ℕ) (none : Own) → (sid == x.sid) ≡ false
      → own_of sid (put_back m x (Becomes soft own)).shown.states (put_back m x (Becomes soft own)).own none
      ≡ own_of sid m.shown.states m.own none

-- an answer by the shown part: reply and shown part afterwards ask no own part
pub record ShownLaws : Type 0 where
  pub reply : (s : Shown) (a b : List Own) (r : Answer) → (applied (beside s a) r).reply ≡ (applied (beside s b) r).reply
  pub shown : (m : Machine) (r : Answer) → (applied m r).machine.shown ≡ shown_after m.shown r.change

-- the reply is none of those of a packet, an output or a tick that change the shown part
abbrev pub is_plain : Reply → Bool
is_plain (reply.Accepted top soft) = false
is_plain reply.Expired = false
is_plain (reply.BadIcv soft) = false
is_plain (reply.Sent proto spi seq soft) = false
is_plain (reply.Overflow soft) = false
is_plain (reply.Ticked now events) = false
is_plain _ = true

abbrev pub is_tick : Call → Bool
is_tick (call.Tick given) = true
is_tick _ = false

-- a refused call changes nothing; a reply that doesn't move leaves what is shown; and but for a tick, what is shown
-- after a call is fixed by what was shown before, the call and its reply, as the moves say
pub record StepLaws : Type 0 where
  pub refused : (m : Machine) (c : Call) → IsTrue (is_refusal_of (step m c).reply) → (step m c).machine ≡ m
  pub still : (m : Machine) (c : Call) → is_moving (step m c).reply ≡ false → (step m c).machine.shown ≡ m.shown
  pub moved : (m : Machine) (c : Call) → is_tick c ≡ false
      → (step m c).machine.shown ≡ after_move m.shown c (step m c).reply
  -- each reply is the machine's own: none comes of other threads, and none of want of memory
  pub alone : (m : Machine) (c : Call) → is_contended (step m c).reply ≡ false
  pub ours : (m : Machine) (c : Call) → is_exception (step m c).reply ≡ false
