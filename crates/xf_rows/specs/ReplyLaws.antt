-- Which replies a call may give.
use Rattle.std.specs.Prelude.{◌≡◌, ℕ, ◌+◌, true, false, List, length}
use Rattle.xf_types.specs.declared.call.Call.{Call}
use Rattle.xf_types.specs.declared.call.Reply.{Reply}
use Rattle.xf_types.specs.declared.call.Reply.TheVariants as reply
use Rattle.xf_types.specs.Machine.{Machine}
use Rattle.xf_types.specs.Steps.{step}
use Rattle.xf_types.specs.History.{is_exception, adds_policy, with_policies, with_states}
use Rattle.xf_rows.specs.declared.layout.Layout.{Layout}
use Rattle.xf_rows.specs.Values.{Beside}
use Rattle.xf_rows.specs.Stands.{Stands}
use Rattle.xf_rows.specs.Replies.{IsReplyOf, Answers}

pub record ReplyLaws : Type 0 where
  -- the machine's own, where words and values stand for the machine after the call
  pub plain : (layout : Layout) (i : List ℕ) (b : Beside) (m : Machine) (c : Call) (r : Reply) → r ≡ (step m c).reply
      → Stands layout i b (step m c).machine → Answers layout i b m c r
  -- one that leaves the machine, where they stand for it as before
  pub excused : (layout : Layout) (i : List ℕ) (b : Beside) (m : Machine) (c : Call) (r : Reply) → is_exception r ≡ true → IsReplyOf m c r
      → Stands layout i b m → Answers layout i b m c r
  -- that the list is full, where each slot is out or waits, and the machine with so much less room is full
  pub full_policies : (m : Machine) (c : Call) (live waiting : ℕ) → adds_policy c ≡ true → live ≡ length m.shown.policies → live + waiting ≡ m.shown.max_policies
      → reply.Full live 0 ≡ (step (with_policies m live) c).reply → IsReplyOf m c (reply.Full live waiting)
  pub full_states : (m : Machine) (c : Call) (live waiting : ℕ) → adds_policy c ≡ false → live ≡ length m.shown.states → live + waiting ≡ m.shown.max_states
      → reply.Full live 0 ≡ (step (with_states m live) c).reply → IsReplyOf m c (reply.Full live waiting)
