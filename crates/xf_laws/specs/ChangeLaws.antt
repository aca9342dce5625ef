-- What a move leaves: the time, unless time passed; the policies and the thresholds, where it isn't counted as a change of them; and
-- each state's record that it isn't counted to add, remove or change.
use Rattle.std.specs.Prelude.{◌≡◌, ℕ, Bool, true, false, find, filter}
use Rattle.std.specs.List.{list_any}
use Rattle.xf_types.specs.declared.state.Sa.{Sa}
use Rattle.xf_types.specs.declared.call.Reply.{Reply}
use Rattle.xf_types.specs.declared.call.Reply.TheVariants.{Ticked}
use Rattle.xf_types.specs.declared.call.Receipt.{Receipt}
use Rattle.xf_types.specs.Machine.{Machine, Shown}
use Rattle.xf_types.specs.StateList.{has_sid}
use Rattle.xf_types.specs.Steps.{step}
use Rattle.xf_types.specs.Moves.{after_move}
use Rattle.xf_types.specs.ChangeIds.{changes_policies, states_changed}
use Rattle.xf_types.specs.IsMachine.{IsMachine}

-- the reply says that time passed
abbrev pub is_ticked : Reply → Bool
is_ticked (Ticked now events) = true
is_ticked _ = false

-- the receipt of a call to a machine of which everything holds, with the machine's reply
pub record IsReceiptOf (m : Machine) (r : Receipt) : Type 0 where
  pub machine : IsMachine m
  pub reply : r.reply ≡ (step m r.call).reply

-- the policies and the thresholds are the same
pub record HaveSamePolicies (s t : Shown) : Type 0 where
  pub policies : t.policies ≡ s.policies
  pub hthresh4 : t.hthresh4 ≡ s.hthresh4
  pub hthresh6 : t.hthresh6 ≡ s.hthresh6

-- the test asks a record's state id, destination and reqid alone, which no move changes
abbrev pub IsByPlace : (Sa → Bool) → Type 0
IsByPlace test = (x y : Sa) → x.sid ≡ y.sid → x.spec.dst ≡ y.spec.dst → x.spec.reqid ≡ y.spec.reqid → test x ≡ test y

pub record ChangeLaws : Type 0 where
  pub time : (m : Machine) (r : Receipt) → IsReceiptOf m r → is_ticked r.reply ≡ false
      → (after_move m.shown r.call r.reply).time ≡ m.shown.time
  pub policies : (m : Machine) (r : Receipt) → IsReceiptOf m r → changes_policies m.shown r ≡ false
      → HaveSamePolicies m.shown (after_move m.shown r.call r.reply)
  -- where no state that the move changes has this state id, the same record is listed under it, or none
  pub listed : (m : Machine) (r : Receipt) (sid : ℕ) → IsReceiptOf m r
      → list_any (has_sid sid) (states_changed m.shown r) ≡ false
      → find (has_sid sid) (after_move m.shown r.call r.reply).states ≡ find (has_sid sid) m.shown.states
  -- and where none passes a test by place, as that of a bucket, the same records do, in the same order
  pub states : (m : Machine) (r : Receipt) (test : Sa → Bool) → IsReceiptOf m r → IsByPlace test
      → list_any test (states_changed m.shown r) ≡ false
      → filter test (after_move m.shown r.call r.reply).states ≡ filter test m.shown.states
