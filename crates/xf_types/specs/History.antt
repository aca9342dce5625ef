-- Which lists of receipts are the history of one machine.
use Rattle.std.specs.Prelude.{◌≡◌, ℕ, Bool, true, false, not, ◌==◌, ◌+◌, ◌<◌, ◌≤◌, nat_lt, zero, suc, List, [], ◌∷◌, ◌++◌, length, count_by, take_while, Option, None, Some, IfSome, All, IsTrue, MatchBool, if◌then◌else◌}
use Rattle.std.specs.List.{list_any}
use Rattle.xf_types.specs.declared.call.Call.{Call}
use Rattle.xf_types.specs.declared.call.Call.TheVariants as call
use Rattle.xf_types.specs.declared.call.Reply.{Reply}
use Rattle.xf_types.specs.declared.call.Reply.TheVariants as reply
use Rattle.xf_types.specs.declared.call.Receipt.{Receipt}
use Rattle.xf_types.specs.Codes.{is_refusal_of}
use Rattle.xf_types.specs.Machine.{Machine}
use Rattle.xf_types.specs.PolicyList.{has_index}
use Rattle.xf_types.specs.StateList.{has_sid}
use Rattle.xf_types.specs.Steps.{step}
use Rattle.xf_types.specs.Moves.{is_moving}

-- the reply comes of other threads alone: a call that was given up, or slots that are held back
abbrev pub is_contended : Reply → Bool
is_contended (reply.Again tries) = true
is_contended (reply.Full live waiting) = nat_lt 0 waiting
is_contended _ = false

-- the replies that are not the machine's and leave it as it was: those, and want of memory
abbrev pub is_exception : Reply → Bool
is_exception reply.NoMemory = true
is_exception other = is_contended other

-- a moment of the history: the machine, how many records were removed so far, and the receipts so far, the latest first
pub record Moment : Type 0 where
  pub machine : Machine
  pub policies_removed : ℕ
  pub states_removed : ℕ
  pub past : List Receipt

-- before the first receipt
abbrev pub beginning : Machine → Moment
beginning m = record { machine = m; policies_removed = 0; states_removed = 0; past = [] }

-- the machine after one receipt
abbrev pub machine_next : Machine → Receipt → Machine
machine_next m r = if is_exception r.reply then m else (step m r.call).machine

-- how many policies of the old machine have no index in the new one
abbrev pub policies_gone : Machine → Machine → ℕ
policies_gone old new = count_by (λ p. not (list_any (has_index p.index) new.shown.policies)) old.shown.policies

-- how many states of the old machine have no number in the new one
abbrev pub states_gone : Machine → Machine → ℕ
states_gone old new = count_by (λ s. not (list_any (has_sid s.sid) new.shown.states)) old.shown.states

-- one receipt later
abbrev pub next_moment : Moment → Receipt → Moment
next_moment t r =
    let new = machine_next t.machine r in
    record {
      machine = new;
      policies_removed = t.policies_removed + policies_gone t.machine new;
      states_removed = t.states_removed + states_gone t.machine new;
      past = r ∷ t.past;
    }

-- which of the two lists a call adds to
abbrev pub adds_policy : Call → Bool
adds_policy (call.PolicyAdd spec) = true
adds_policy (call.PolicyUpdate spec) = true
adds_policy _ = false

-- the machine with this capacity for policies
abbrev pub with_policies : Machine → ℕ → Machine
with_policies m capacity = record { shown = record m.shown { max_policies = capacity }; own = m.own }

-- the machine with this capacity for states
abbrev pub with_states : Machine → ℕ → Machine
with_states m capacity = record { shown = record m.shown { max_states = capacity }; own = m.own }

-- live records are listed, with the waiting slots they are the capacity, and no more slots wait than records were removed
pub record IsHeldBack (live waiting listed capacity removed : ℕ) : Type 0 where
  pub live_is : live ≡ listed
  pub sum_is : live + waiting ≡ capacity
  pub few : waiting ≤ removed

-- the list that the call adds to is as full as it may be with slots held back
abbrev pub IsFullWithWaiting : Moment → Receipt → ℕ → ℕ → Type 0
IsFullWithWaiting t r live waiting =
    let m = t.machine in
    let policies = length m.shown.policies in
    let states = length m.shown.states in
    MatchBool (adds_policy r.call)
    (IsHeldBack live waiting policies m.shown.max_policies t.policies_removed
    × ((step (with_policies m policies) r.call).reply ≡ reply.Full live 0))
    (IsHeldBack live waiting states m.shown.max_states t.states_removed
    × ((step (with_states m states) r.call).reply ≡ reply.Full live 0))

-- the moves of others since the worker's receipt before, or since the beginning
abbrev pub moves_since : ℕ → List Receipt → ℕ
moves_since worker past = count_by (λ r. is_moving r.reply) (take_while (λ r. not (r.worker == worker)) past)

-- the call may be given up after reads that were overtaken
abbrev pub may_be_again : Call → Bool
may_be_again (call.Flow flow) = true
may_be_again (call.Packet packet) = true
may_be_again (call.StateGet id) = true
may_be_again _ = false

-- the reply may stand here
abbrev pub MayReply : Moment → Receipt → Reply → Type 0
MayReply t r (reply.Again tries) =
    IsTrue (may_be_again r.call) × (1 ≤ tries) × (tries ≤ moves_since r.worker t.past)
MayReply t r reply.NoMemory = Unit
MayReply t r (reply.Full live zero) = reply.Full live 0 ≡ (step t.machine r.call).reply
MayReply t r (reply.Full live (suc waiting)) = IsFullWithWaiting t r live (suc waiting)
MayReply t r other = other ≡ (step t.machine r.call).reply

-- each reply may stand at its moment
abbrev pub IsLegalFrom : Moment → List Receipt → Type 0
IsLegalFrom t [] = Unit
IsLegalFrom t (r ∷ rs) = MayReply t r r.reply × IsLegalFrom (next_moment t r) rs

-- the numbers of the receipts increase
abbrev pub IsIncreasing : List Receipt → Type 0
IsIncreasing [] = Unit
IsIncreasing (r ∷ []) = Unit
IsIncreasing (r ∷ q ∷ rs) = (r.number < q.number) × IsIncreasing (q ∷ rs)

-- the history is one that the machine could have had
pub record IsLegalHistory (start : Machine) (history : List Receipt) : Type 0 where
  pub in_order : IsIncreasing history
  pub replies : IsLegalFrom (beginning start) history

-- no reply of the history comes of other threads
abbrev pub IsUncontended : List Receipt → Type 0
IsUncontended history = All (λ r. is_contended r.reply ≡ false) history

-- some reply of the history refuses its call
abbrev pub has_refusal : List Receipt → Bool
has_refusal history = list_any (λ r. is_refusal_of r.reply) history

-- how many tries a call was given up after
abbrev pub tries_of : Reply → Option ℕ
tries_of (reply.Again tries) = Some tries
tries_of _ = None

-- each call that was given up had this many tries
abbrev pub GivesUpAfter : ℕ → List Receipt → Type 0
GivesUpAfter tries history = All (λ r. IfSome (tries_of r.reply) (λ n. n ≡ tries)) history

-- the moment after a list of receipts; its machine is the machine of the history
abbrev pub moment_of : Moment → List Receipt → Moment
moment_of t [] = t
moment_of t (r ∷ rs) = moment_of (next_moment t r) rs

-- the machine after a history
abbrev pub machine_of : Machine → List Receipt → Machine
machine_of start history = (moment_of (beginning start) history).machine

-- each phase's history is legal, from the machine that the phases before it left
abbrev pub AreLegalHistories : Machine → List (List Receipt) → Type 0
AreLegalHistories start [] = Unit {0}
AreLegalHistories start (h ∷ hs) = IsLegalHistory start h × AreLegalHistories (machine_of start h) hs

-- the histories of all phases, one after another
abbrev pub joined : List (List Receipt) → List Receipt
joined [] = []
joined (h ∷ hs) = h ++ joined hs
