-- What is gone stays gone.
use Rattle.std.proofs.Common.{arith, ℕ, ◌≡◌, true, false, ◌==◌, List, [], ◌∷◌, ap, sym, ◌∙◌, cond, inl, inr}
use Rattle.std.proofs.lemmas.Bool.{both_ways, ne_eqb}
use Rattle.std.proofs.lemmas.List.Elements.{All-weaker, All-contains}
use Rattle.std.proofs.lemmas.List.Folds.{list_any_none}
use Rattle.xf_types.specs.declared.policy.Policy.{Policy}
use Rattle.xf_types.specs.declared.state.Sa.{Sa}
use Rattle.xf_types.specs.declared.call.Call.{Call}
use Rattle.xf_types.specs.declared.call.Receipt.{Receipt}
use Rattle.xf_types.specs.Machine.{Machine}
use Rattle.xf_types.specs.StateList.{has_sid}
use Rattle.xf_types.specs.Steps.{step}
use Rattle.xf_types.specs.History.{Moment, is_exception, machine_next, next_moment, moment_of}
use Rattle.xf_types.specs.IsMachine.{IsMachine}
use Rattle.xf_laws.specs.LeaveLaws.{is_listed}
use Rattle.xf_laws.specs.NewLaws.{is_numbered}
use Rattle.xf_laws.specs.SpentLaws.{IsSpentSid, IsSpentNumber, after_calls}
use Rattle.xf_laws.proofs.LaterLemmas.{step-later}
use Rattle.xf_laws.proofs.MachineLemmas.{step-kept, next-kept}
use Rattle.xf_laws.proofs.FormLemmas.{IsPolicyOf}
use Rattle.xf_laws.proofs.NewLemmas.{IsOldOrNew, old-or-new, numbered-all}
use Rattle.xf_laws.proofs.ToldLemmas.{told}

-- no state after a step has a spent id
none-has : (m : Machine) (sid : ℕ) → IsSpentSid m sid → (x : Sa) → IsOldOrNew m.shown x → has_sid sid x ≡ false
unfolding IsOldOrNew
none-has m sid spent x (inl old) =
    ne_eqb x.sid sid (λ is. both_ways (is_listed x.sid m.shown.states) (ap (λ (n : ℕ). is_listed n m.shown.states) is ∙ spent.gone) old)
none-has m sid spent x (inr new) =
    ne_eqb x.sid sid (λ is. (let less = spent.given in let next = new.sid in omega arith))

-- a step
sid-step : (m : Machine) (c : Call) (sid : ℕ) → IsMachine m → IsSpentSid m sid → IsSpentSid (step m c).machine sid
sid-step m c sid h spent =
    let n = (step m c).machine in
    let kept = (step-later m c).sid_kept in
    let less = spent.given in
    record {
      given = omega arith;
      gone =
          list_any_none (has_sid sid) n.shown.states
          (All-weaker (IsOldOrNew m.shown) (λ (x : Sa). has_sid sid x ≡ false) (none-has m sid spent) n.shown.states
          (old-or-new m.shown c (step m c).reply n.shown.states (told m c h).states));
    }

-- no policy after a step has a spent number
none-numbered : (m : Machine) (number : ℕ) → IsSpentNumber m number → (p : Policy) → IsPolicyOf m.shown p → (p.number == number) ≡ false
none-numbered m number spent p (inl old) =
    ne_eqb p.number number
    (λ is.
    both_ways (is_numbered number m.shown.policies) spent.gone
    (ap (λ (n : ℕ). is_numbered n m.shown.policies) (sym is ∙ ap (λ (q : Policy). q.number) old.same)
    ∙ All-contains (λ (q : Policy). is_numbered q.number m.shown.policies ≡ true) m.shown.policies old.old
    (numbered-all m.shown.policies) old.here))
none-numbered m number spent p (inr new) =
    ne_eqb p.number number (λ is. (let less = spent.given in let next = new.number in omega arith))

-- a step
number-step : (m : Machine) (c : Call) (number : ℕ) → IsMachine m → IsSpentNumber m number → IsSpentNumber (step m c).machine number
number-step m c number h spent =
    let n = (step m c).machine in
    let kept = (step-later m c).number_kept in
    let less = spent.given in
    record {
      given = omega arith;
      gone =
          list_any_none (λ (p : Policy). p.number == number) n.shown.policies
          (All-weaker (IsPolicyOf m.shown) (λ (p : Policy). (p.number == number) ≡ false) (none-numbered m number spent) n.shown.policies
          (told m c h).policies);
    }

-- a fact that each step keeps
module _ (P : Machine → Type 0) (keeps : (m : Machine) (c : Call) → IsMachine m → P m → P (step m c).machine) where
  -- is kept by each list of calls
  after-calls : (m : Machine) (cs : List Call) → IsMachine m → P m → P (after_calls m cs)
  after-calls m [] h is = is
  after-calls m (c ∷ cs) h is = after-calls (step m c).machine cs (step-kept m c h) (keeps m c h is)

  -- by each receipt
  after-receipt : (m : Machine) (r : Receipt) → IsMachine m → P m → P (machine_next m r)
  after-receipt m r h is =
      elim (is_exception r.reply) as (λ b. P (cond b m (step m r.call).machine)) [ true ↦ is | false ↦ keeps m r.call h is ]

  -- and by each list of them
  after-receipts : (t : Moment) (history : List Receipt) → IsMachine t.machine → P t.machine → P (moment_of t history).machine
  after-receipts t [] h is = is
  after-receipts t (r ∷ rs) h is =
      after-receipts (next_moment t r) rs (next-kept t.machine r h) (after-receipt t.machine r h is)

-- a state id
pub sid-calls : (m : Machine) (cs : List Call) (sid : ℕ) → IsMachine m → IsSpentSid m sid → IsSpentSid (after_calls m cs) sid
sid-calls m cs sid h spent = after-calls (λ n. IsSpentSid n sid) (λ n c. sid-step n c sid) m cs h spent

-- a policy's number
pub number-calls : (m : Machine) (cs : List Call) (number : ℕ) → IsMachine m → IsSpentNumber m number
    → IsSpentNumber (after_calls m cs) number
number-calls m cs number h spent = after-calls (λ n. IsSpentNumber n number) (λ n c. number-step n c number) m cs h spent

-- a state id over a history
pub sid-receipts : (t : Moment) (history : List Receipt) (sid : ℕ) → IsMachine t.machine → IsSpentSid t.machine sid
    → IsSpentSid (moment_of t history).machine sid
sid-receipts t history sid h spent = after-receipts (λ n. IsSpentSid n sid) (λ n c. sid-step n c sid) t history h spent

-- and a policy's number
pub number-receipts : (t : Moment) (history : List Receipt) (number : ℕ) → IsMachine t.machine → IsSpentNumber t.machine number
    → IsSpentNumber (moment_of t history).machine number
number-receipts t history number h spent =
    after-receipts (λ n. IsSpentNumber n number) (λ n c. number-step n c number) t history h spent
