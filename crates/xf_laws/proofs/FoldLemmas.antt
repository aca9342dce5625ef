-- What is shown after a legal history is what its moves make of what was shown at its beginning.
use Rattle.std.proofs.Common.{arith, zero, suc, ◌≡◌, Bool, true, false, List, [], ◌∷◌, refl, ap, sym, ◌∙◌, cond, inl, inr, ◌⊎◌, lt-ltb}
use Rattle.std.proofs.lemmas.Bool.{cases_Bool, cond-true, cond-false}
use Rattle.xf_types.specs.declared.call.Receipt.{Receipt}
use Rattle.xf_types.specs.declared.call.Reply.{Reply}
use Rattle.xf_types.specs.declared.call.Reply.TheVariants as reply
use Rattle.xf_types.specs.Machine.{Machine, Shown}
use Rattle.xf_types.specs.Steps.{step}
use Rattle.xf_types.specs.Moves.{after_move, after_moves, moves_of, is_moving}
use Rattle.xf_types.specs.History.{Moment, MayReply, is_exception, machine_next, next_moment, moment_of, machine_of, beginning, IsLegalFrom, IsLegalHistory}
use Rattle.xf_types.specs.IsMachine.{IsMachine}
use Rattle.xf_laws.proofs.StepLemmas.{step-still}
use Rattle.xf_laws.proofs.MachineLemmas.{next-kept}
use Rattle.xf_laws.proofs.MoveLemmas.{call-moved}

-- a reply that may stand at its moment leaves the machine and doesn't move, or is the machine's
pub record Outside (x : Reply) : Type 0 where
  pub outside : is_exception x ≡ true
  pub still : is_moving x ≡ false

-- it is the machine's
pub record Inside (t : Moment) (r : Receipt) (x : Reply) : Type 0 where
  pub inside : is_exception x ≡ false
  pub own : x ≡ (step t.machine r.call).reply

-- a reply that equals the machine's
by_machine : (t : Moment) (r : Receipt) (x : Reply) → is_exception x ≡ false → x ≡ (step t.machine r.call).reply → Outside x ⊎ Inside t r x
by_machine t r x e is = inr (record { inside = e; own = is })

-- each reply that may stand is of one of the two kinds
pub ruled : (t : Moment) (r : Receipt) (x : Reply) → MayReply t r x → Outside x ⊎ Inside t r x
ruled t r reply.Done h = by_machine t r reply.Done refl h
ruled t r (reply.DoneIndex a) h = by_machine t r (reply.DoneIndex a) refl h
ruled t r (reply.DoneSid a) h = by_machine t r (reply.DoneSid a) refl h
ruled t r (reply.DoneSpi a b) h = by_machine t r (reply.DoneSpi a b) refl h
ruled t r (reply.Removed a) h = by_machine t r (reply.Removed a) refl h
ruled t r (reply.PolicyShown a) h = by_machine t r (reply.PolicyShown a) refl h
ruled t r (reply.PolicyList a) h = by_machine t r (reply.PolicyList a) refl h
ruled t r (reply.PolicyCount a b c) h = by_machine t r (reply.PolicyCount a b c) refl h
ruled t r (reply.StateShown a) h = by_machine t r (reply.StateShown a) refl h
ruled t r (reply.StateList a) h = by_machine t r (reply.StateList a) refl h
ruled t r (reply.StateCount a) h = by_machine t r (reply.StateCount a) refl h
ruled t r reply.FlowNone h = by_machine t r reply.FlowNone refl h
ruled t r (reply.FlowBlock a) h = by_machine t r (reply.FlowBlock a) refl h
ruled t r (reply.FlowAllow a b) h = by_machine t r (reply.FlowAllow a b) refl h
ruled t r (reply.Waiting a) h = by_machine t r (reply.Waiting a) refl h
ruled t r (reply.Acquire a) h = by_machine t r (reply.Acquire a) refl h
ruled t r (reply.Wanting a b) h = by_machine t r (reply.Wanting a b) refl h
ruled t r (reply.Again a) h = inl (record { outside = refl; still = refl })
ruled t r (reply.Accepted a b) h = by_machine t r (reply.Accepted a b) refl h
ruled t r reply.Zero h = by_machine t r reply.Zero refl h
ruled t r (reply.Old a) h = by_machine t r (reply.Old a) refl h
ruled t r (reply.Seen a) h = by_machine t r (reply.Seen a) refl h
ruled t r reply.Expired h = by_machine t r reply.Expired refl h
ruled t r reply.Larval h = by_machine t r reply.Larval refl h
ruled t r (reply.BadIcv a) h = by_machine t r (reply.BadIcv a) refl h
ruled t r (reply.Sent a b c d) h = by_machine t r (reply.Sent a b c d) refl h
ruled t r reply.Stale h = by_machine t r reply.Stale refl h
ruled t r (reply.Overflow a) h = by_machine t r (reply.Overflow a) refl h
ruled t r (reply.Ticked a b) h = by_machine t r (reply.Ticked a b) refl h
ruled t r (reply.PolicyExists a) h = by_machine t r (reply.PolicyExists a) refl h
ruled t r (reply.StateExists a) h = by_machine t r (reply.StateExists a) refl h
ruled t r reply.NoEntry h = by_machine t r reply.NoEntry refl h
ruled t r reply.NoState h = by_machine t r reply.NoState refl h
ruled t r reply.Invalid h = by_machine t r reply.Invalid refl h
ruled t r reply.NoSpi h = by_machine t r reply.NoSpi refl h
ruled t r reply.NoMemory h = inl (record { outside = refl; still = refl })
ruled t r (reply.Full live zero) h = by_machine t r (reply.Full live 0) refl h
ruled t r (reply.Full live (suc waiting)) h = inl (record { outside = lt-ltb 0 (suc waiting) (omega arith); still = refl })

-- what is shown after one receipt
pub one-folded : (t : Moment) (r : Receipt) → IsMachine t.machine → Outside r.reply ⊎ Inside t r r.reply
    → cond (is_moving r.reply) (after_move t.machine.shown r.call r.reply) t.machine.shown ≡ (machine_next t.machine r).shown
one-folded t r h (inl x) =
    cond-false (is_moving r.reply) (after_move t.machine.shown r.call r.reply) t.machine.shown x.still
    ∙ ap (λ (m : Machine). m.shown) (sym (cond-true (is_exception r.reply) t.machine (step t.machine r.call).machine x.outside))
one-folded t r h (inr x) =
    let m = t.machine in
    elim (cases_Bool (is_moving r.reply)) [
      | inl moving ↦
          cond-true (is_moving r.reply) (after_move m.shown r.call r.reply) m.shown moving
          ∙ ap (after_move m.shown r.call) x.own
          ∙ sym (call-moved m r.call h)
      | inr still ↦
          cond-false (is_moving r.reply) (after_move m.shown r.call r.reply) m.shown still
          ∙ sym (step-still m r.call (ap is_moving (sym x.own) ∙ still))
    ]
    ∙ ap (λ (n : Machine). n.shown) (sym (cond-false (is_exception r.reply) m (step m r.call).machine x.inside))

-- one more move, or not
one-more : (s : Shown) (r : Receipt) (moves : List Receipt) (b : Bool)
    → after_moves s (cond b (r ∷ moves) moves) ≡ after_moves (cond b (after_move s r.call r.reply) s) moves
one-more s r moves true = refl
one-more s r moves false = refl

-- from any moment on
pub folded-from : (t : Moment) (history : List Receipt) → IsMachine t.machine → IsLegalFrom t history
    → after_moves t.machine.shown (moves_of history) ≡ (moment_of t history).machine.shown
folded-from t [] h legal = refl
folded-from t (r ∷ rs) h legal =
    one-more t.machine.shown r (moves_of rs) (is_moving r.reply)
    ∙ ap (λ (s : Shown). after_moves s (moves_of rs)) (one-folded t r h (ruled t r r.reply legal.0))
    ∙ folded-from (next_moment t r) rs (next-kept t.machine r h) legal.1

-- from the beginning
pub history-folded : (m : Machine) (history : List Receipt) → IsMachine m → IsLegalHistory m history
    → after_moves m.shown (moves_of history) ≡ (machine_of m history).shown
history-folded m history h legal = folded-from (beginning m) history h legal.replies
