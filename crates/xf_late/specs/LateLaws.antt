-- What a receipt does to the own parts, and what one does that comes to stand before others.
use Rattle.std.specs.Prelude.{◌≡◌, ◌≢◌, ℕ, false, List, ◌∷◌, ◌++◌, Option, Some, All, Contains}
use Rattle.xf_types.specs.declared.call.Receipt.{Receipt}
use Rattle.xf_types.specs.declared.state.Sa.{Sa}
use Rattle.xf_types.specs.Machine.{Machine, Shown}
use Rattle.xf_types.specs.OwnParts.{new_own, own_in}
use Rattle.xf_types.specs.Moves.{is_moving}
use Rattle.xf_types.specs.History.{Moment, MayReply, IsLegalFrom, machine_next, moment_of}
use Rattle.xf_types.specs.IsMachine.{IsMachine}
use Rattle.xf_laws.specs.LeaveLaws.{is_listed}
use Rattle.xf_late.specs.Rests.{rests_on, own_touched}

-- none of the receipts moves
abbrev pub AreStill : List Receipt → Type 0
AreStill receipts = All (λ r. is_moving r.reply ≡ false) receipts

-- none of them rests on the own part of this state
abbrev pub RestElsewhere : Shown → ℕ → List Receipt → Type 0
RestElsewhere s sid receipts = All (λ r. rests_on s r ≡ Some sid → ⊥) receipts

pub record ReceiptLaws : Type 0 where
  -- after each receipt, whatever it says, a state that was listed (y) and still is (x) has the own part that the receipt makes of it
  pub stays : (m : Machine) (r : Receipt) (x y : Sa) → IsMachine m → Contains m.shown.states y → Contains (machine_next m r).shown.states x
      → x.sid ≡ y.sid → own_in (machine_next m r) x ≡ own_touched (rests_on m.shown r) r.call m.shown.time y (own_in m y)
  -- and one that wasn't begins with what its record says
  pub comes : (m : Machine) (r : Receipt) (x : Sa) → IsMachine m → Contains (machine_next m r).shown.states x
      → is_listed x.sid m.shown.states ≡ false → own_in (machine_next m r) x ≡ new_own x.spec
  -- receipts that don't move leave what is shown, and the own part of each state on which none of them rests
  pub shown : (t : Moment) (receipts : List Receipt) → IsMachine t.machine → IsLegalFrom t receipts → AreStill receipts
      → (moment_of t receipts).machine.shown ≡ t.machine.shown
  pub left : (t : Moment) (receipts : List Receipt) (x : Sa) → IsMachine t.machine → IsLegalFrom t receipts → AreStill receipts
      → Contains t.machine.shown.states x → RestElsewhere t.machine.shown x.sid receipts
      → own_in (moment_of t receipts).machine x ≡ own_in t.machine x

-- a receipt that neither moves, nor is this worker's, nor rests on the own part of this state
pub record IsAway (worker : ℕ) (one : Option ℕ) (s : Shown) (q : Receipt) : Type 0 where
  pub still : is_moving q.reply ≡ false
  pub other : q.worker ≢ worker
  pub elsewhere : (sid : ℕ) → one ≡ Some sid → rests_on s q ≡ Some sid → ⊥

-- a receipt that comes to stand after some receipts and before others: it may stand there, doesn't move, and is no matter to the others
pub record IsLate (t : Moment) (before after : List Receipt) (r : Receipt) : Type 0 where
  pub may : MayReply (moment_of t before) r r.reply
  pub still : is_moving r.reply ≡ false
  pub away : All (IsAway r.worker (rests_on (moment_of t before).machine.shown r) (moment_of t before).machine.shown) after

pub record LateLaws : Type 0 where
  -- the history stays legal
  pub legal : (t : Moment) (before after : List Receipt) (r : Receipt) → IsMachine t.machine → IsLate t before after r
      → IsLegalFrom t (before ++ after) → IsLegalFrom t (before ++ r ∷ after)
  -- and to each own part the receipt does what it would do as the last one
  pub own : (t : Moment) (before after : List Receipt) (r : Receipt) (x : Sa) → IsMachine t.machine → IsLate t before after r
      → IsLegalFrom t (before ++ after) → Contains (moment_of t before).machine.shown.states x
      → own_in (moment_of t (before ++ r ∷ after)).machine x
      ≡ own_touched (rests_on (moment_of t before).machine.shown r) r.call (moment_of t before).machine.shown.time x
      (own_in (moment_of t (before ++ after)).machine x)
