-- What a call over words may reply, and what it leaves.
use Rattle.std.specs.Prelude.{◌≡◌, ℕ, zero, suc, ◌+◌, ⊤, List, length, MatchBool, if◌then◌else◌}
use Rattle.xf_types.specs.declared.call.Call.{Call}
use Rattle.xf_types.specs.declared.call.Reply.{Reply}
use Rattle.xf_types.specs.declared.call.Reply.TheVariants as reply
use Rattle.xf_types.specs.Machine.{Machine}
use Rattle.xf_types.specs.Steps.{step}
use Rattle.xf_types.specs.History.{is_exception, adds_policy, with_policies, with_states}
use Rattle.xf_rows.specs.declared.layout.Layout.{Layout}
use Rattle.xf_rows.specs.Values.{Beside}
use Rattle.xf_rows.specs.Stands.{Stands}

-- of so many slots these are listed and these wait, and a machine with so much less room refuses the call
pub record IsShort (live waiting listed capacity : ℕ) (shorter : Machine) (c : Call) : Type 0 where
  pub live_is : live ≡ listed
  pub sum_is : live + waiting ≡ capacity
  pub full : reply.Full live 0 ≡ (step shorter c).reply

-- the list that the call adds to is as full as it may be while slots wait
abbrev pub IsFullFor : Machine → Call → ℕ → ℕ → Type 0
IsFullFor m c live waiting =
    let policies = length m.shown.policies in
    let states = length m.shown.states in
    MatchBool (adds_policy c)
    (IsShort live waiting policies m.shown.max_policies (with_policies m policies) c)
    (IsShort live waiting states m.shown.max_states (with_states m states) c)

-- Want of memory may be told always, and that slots wait where they do; each other reply is the machine's. No call over words that it
-- has to itself is given up.
abbrev pub IsReplyOf : Machine → Call → Reply → Type 0
IsReplyOf m c (reply.Again tries) = ⊥
IsReplyOf m c reply.NoMemory = ⊤
IsReplyOf m c (reply.Full live zero) = reply.Full live 0 ≡ (step m c).reply
IsReplyOf m c (reply.Full live (suc waiting)) = IsFullFor m c live (suc waiting)
IsReplyOf m c other = other ≡ (step m c).reply

-- the machine after a call that replied so
abbrev pub machine_left : Machine → Call → Reply → Machine
machine_left m c r = if is_exception r then m else (step m c).machine

-- The reply is one that the call may give, and words and values stand for the machine after it.
pub record Answers (layout : Layout) (image : List ℕ) (b : Beside) (m : Machine) (c : Call) (r : Reply) : Type 0 where
  pub is_reply : IsReplyOf m c r
  pub stands : Stands layout image b (machine_left m c r)
