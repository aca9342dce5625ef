-- The machine's own replies may stand, and on what they rest.
use Rattle.std.proofs.Common.{◌≡◌, ℕ, zero, suc, true, false, true≢false, List, [], ◌∷◌, Some, None, Option, refl, sym, ap, ◌∙◌, cond, arith, inl, inr, find, lt-ltb}
use Rattle.std.specs.Prelude.{◌||◌}
use Rattle.std.specs.Option.{option_map}
use Rattle.std.proofs.lemmas.Bool.{cases_Bool}
use Rattle.xf_types.specs.declared.call.Receipt.{Receipt}
use Rattle.xf_types.specs.declared.call.Reply.{Reply}
use Rattle.xf_types.specs.declared.call.Reply.TheVariants as reply
use Rattle.xf_types.specs.declared.state.Sa.{Sa}
use Rattle.xf_types.specs.Machine.{Shown}
use Rattle.xf_types.specs.StateList.{has_sid}
use Rattle.xf_types.specs.Steps.{step, rule_of}
use Rattle.xf_types.specs.Moves.{state_found}
use Rattle.xf_types.specs.History.{Moment, MayReply, is_exception}
use Rattle.xf_laws.specs.LeaveLaws.{is_listed}
use Rattle.xf_laws.proofs.StepLemmas.{step-ours}
use Rattle.xf_late.specs.Rests.{rests_on}
use Rattle.xf_late.proofs.Owns.{rests-none, rests-found}
use Rattle.xf_views.specs.declared.entry.Listed.{Listed}
use Rattle.xf_views.specs.declared.view.SlotTurn.{SlotTurn}
use Rattle.xf_ownpart.specs.Turns.{Keeps, IsCovered}
use Rattle.xf_ownpart.proofs.Slots.{nothing}
use Rattle.xf_legalpart.specs.Honest.{IsForKept}

-- a reply that is the machine's
pub may-own : (t : Moment) (r : Receipt) (x : Reply) → x ≡ (step t.machine r.call).reply → MayReply t r x
may-own t r (reply.Again tries) e = absurd (true≢false (ap is_exception e ∙ step-ours t.machine r.call))
may-own t r reply.NoMemory e = tt
may-own t r (reply.Full live zero) e = e
may-own t r (reply.Full live (suc waiting)) e = absurd (true≢false (sym (lt-ltb 0 (suc waiting) (omega arith)) ∙ ap is_exception e ∙ step-ours t.machine r.call))
may-own t r x e = e

-- on none but the state that the call is for
pub for-covered : (turns : List SlotTurn) (s : Shown) (r : Receipt) → IsForKept turns s r.call → IsCovered turns (rests_on s r)
for-covered turns s r kept sid rests = elim (cases_Bool (is_exception r.reply)) [
  | inl out ↦ nothing sid (sym (rests-none s r out) ∙ rests)
  | inr ours ↦ by (state_found (rule_of s r.call)) refl (sym (rests-found s r ours) ∙ rests)
]
  where
    same_number : (a b : ℕ) → Some a ≡ Some b → a ≡ b
    same_number a b e = cc

    by : (o : Option Sa) → state_found (rule_of s r.call) ≡ o → option_map (λ (z : Sa). z.sid) o ≡ Some sid → (l : Listed) × Keeps turns l × (l.state.sid ≡ sid)
    by None e h = nothing sid h
    by (Some x) e h = let k = kept x e in (k.0, k.1, k.2 ∙ same_number x.sid sid h)

-- a state that isn't listed isn't found
pub not-found : (sid : ℕ) (states : List Sa) → is_listed sid states ≡ false → find (has_sid sid) states ≡ None
not-found sid [] h = refl
not-found sid (x ∷ states) h =
    elim (has_sid sid x) as (λ b. (b || is_listed sid states) ≡ false → cond b (Some x) (find (has_sid sid) states) ≡ None) [
      | true ↦ λ k. absurd (true≢false k)
      | false ↦ λ k. not-found sid states k
    ] h
