-- A reply that doesn't move removes no record.
use Rattle.std.proofs.Common.{arith, ◌≡◌, ℕ, ◌+◌, Bool, false, not, ◌==◌, List, [], ◌∷◌, get_or, refl, ap, sym, ◌∙◌, subst, cond, inl, inr, All, Contains, eq-eqb}
use Rattle.std.proofs.lemmas.Bool.{cond-true, cond-false}
use Rattle.std.proofs.lemmas.List.Elements.{All-head, All-tail, All-contains_itself}
use Rattle.std.proofs.lemmas.List.Folds.{list_any_at}
use Rattle.std.proofs.lemmas.List.Sums.{sum_by-cons}
use Rattle.std.specs.List.{list_any}
use Rattle.std.specs.Prelude.{count_by}
use Rattle.xf_types.specs.declared.policy.Policy.{Policy}
use Rattle.xf_types.specs.declared.state.Sa.{Sa}
use Rattle.xf_types.specs.declared.call.Call.{Call}
use Rattle.xf_types.specs.declared.call.Receipt.{Receipt}
use Rattle.xf_types.specs.Machine.{Machine, Shown}
use Rattle.xf_types.specs.Steps.{step}
use Rattle.xf_types.specs.Moves.{is_moving}
use Rattle.xf_types.specs.History.{Moment, MayReply, IsLegalFrom, is_exception, machine_next, next_moment, moment_of, policies_gone, states_gone}
use Rattle.xf_laws.specs.RemovalLaws.{AllStay, NoneIsRemoved}
use Rattle.xf_laws.proofs.FoldLemmas.{ruled}
use Rattle.xf_laws.proofs.StepLemmas.{step-still}

-- where none passes, none is counted
count-none : {X : Type 0} (test : X → Bool) (xs : List X) → All (λ x. test x ≡ false) xs → count_by test xs ≡ 0
count-none test [] none = refl
count-none test (x ∷ xs) none =
    sum_by-cons (λ y. cond (test y) 1 0) x xs
    ∙ ap (λ (b : Bool). cond b 1 0 + count_by test xs) (All-head (λ y. test y ≡ false) x xs none)
    ∙ ap (λ (n : ℕ). 0 + n) (count-none test xs (All-tail (λ y. test y ≡ false) x xs none))

-- no element of a list lacks its key in the list
none-lacks : {X : Type 0} (key : X → ℕ) (xs : List X) → count_by (λ x. not (list_any (λ y. key y == key x) xs)) xs ≡ 0
none-lacks {X} key xs =
    count-none (λ (x : X). not (list_any (λ y. key y == key x) xs)) xs
    (λ k d within.
    ap not
    (list_any_at (λ (y : X). key y == key (get_or xs k d)) xs k d within
    (eq-eqb (key (get_or xs k d)) (key (get_or xs k d)) refl)))

-- where the same is shown all stay
stay-shown : (m n : Machine) → n.shown ≡ m.shown → AllStay m n
stay-shown m n e =
    record {
      policies = subst (λ (s : Shown). All (Contains s.policies) m.shown.policies) (sym e) (All-contains_itself m.shown.policies);
      states = subst (λ (s : Shown). All (Contains s.states) m.shown.states) (sym e) (All-contains_itself m.shown.states);
      no_policy_gone =
          subst (λ (s : Shown). count_by (λ (p : Policy). not (list_any (λ (q : Policy). q.index == p.index) s.policies)) m.shown.policies ≡ 0)
          (sym e) (none-lacks (λ (p : Policy). p.index) m.shown.policies);
      no_state_gone =
          subst (λ (s : Shown). count_by (λ (x : Sa). not (list_any (λ (y : Sa). y.sid == x.sid) s.states)) m.shown.states ≡ 0)
          (sym e) (none-lacks (λ (x : Sa). x.sid) m.shown.states);
    }

-- a call
pub call-stays : (m : Machine) (c : Call) → is_moving (step m c).reply ≡ false → AllStay m (step m c).machine
call-stays m c still = stay-shown m (step m c).machine (step-still m c still)

-- the same is shown at two moments, and as many were removed before them
record IsStill (t u : Moment) : Type 0 where
  shown : u.machine.shown ≡ t.machine.shown
  policies_removed : u.policies_removed ≡ t.policies_removed
  states_removed : u.states_removed ≡ t.states_removed

-- then none was removed between them
still-removes : (t u : Moment) → IsStill t u → NoneIsRemoved t u
still-removes t u h =
    record {
      stay = stay-shown t.machine u.machine h.shown;
      policies_removed = h.policies_removed;
      states_removed = h.states_removed;
    }

-- what is shown after a receipt that doesn't move
next-shown : (t : Moment) (r : Receipt) → MayReply t r r.reply → is_moving r.reply ≡ false
    → (machine_next t.machine r).shown ≡ t.machine.shown
next-shown t r may still =
    let m = t.machine in
    elim (ruled t r r.reply may) [
      | inl x ↦ ap (λ (n : Machine). n.shown) (cond-true (is_exception r.reply) m (step m r.call).machine x.outside)
      | inr x ↦
          ap (λ (n : Machine). n.shown) (cond-false (is_exception r.reply) m (step m r.call).machine x.inside)
          ∙ step-still m r.call (ap is_moving (sym x.own) ∙ still)
    ]

-- nothing is added to a count
adds-none : (n k : ℕ) → k ≡ 0 → n + k ≡ n
adds-none n k e = omega arith

-- the moment after it
next-still : (t : Moment) (r : Receipt) → MayReply t r r.reply → is_moving r.reply ≡ false → IsStill t (next_moment t r)
next-still t r may still =
    let shown = next-shown t r may still in
    let stay = stay-shown t.machine (machine_next t.machine r) shown in
    record {
      shown = shown;
      policies_removed = adds-none t.policies_removed (policies_gone t.machine (machine_next t.machine r)) stay.no_policy_gone;
      states_removed = adds-none t.states_removed (states_gone t.machine (machine_next t.machine r)) stay.no_state_gone;
    }

-- a receipt
pub receipt-removes : (t : Moment) (r : Receipt) → MayReply t r r.reply → is_moving r.reply ≡ false → NoneIsRemoved t (next_moment t r)
receipt-removes t r may still = still-removes t (next_moment t r) (next-still t r may still)

-- any number of them
all-still : (t : Moment) (history : List Receipt) → IsLegalFrom t history → All (λ r. is_moving r.reply ≡ false) history
    → IsStill t (moment_of t history)
all-still t [] legal still = record { shown = refl; policies_removed = refl; states_removed = refl }
all-still t (r ∷ rs) legal still =
    let first = next-still t r legal.0 (All-head (λ (q : Receipt). is_moving q.reply ≡ false) r rs still) in
    let then = all-still (next_moment t r) rs legal.1 (All-tail (λ (q : Receipt). is_moving q.reply ≡ false) r rs still) in
    record {
      shown = then.shown ∙ first.shown;
      policies_removed = then.policies_removed ∙ first.policies_removed;
      states_removed = then.states_removed ∙ first.states_removed;
    }

-- a history
pub history-removes : (t : Moment) (history : List Receipt) → IsLegalFrom t history → All (λ r. is_moving r.reply ≡ false) history
    → NoneIsRemoved t (moment_of t history)
history-removes t history legal still = still-removes t (moment_of t history) (all-still t history legal still)
