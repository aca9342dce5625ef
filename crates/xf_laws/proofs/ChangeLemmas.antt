-- What a move leaves.
use Rattle.std.proofs.Common.{arith, ℕ, ◌≡◌, ◌<◌, Bool, true, false, not, ◌&&◌, ◌||◌, ◌==◌, List, [], ◌∷◌, ◌++◌, get_or, map, filter, refl, ap, sym, ◌∙◌, subst, cond, Some, find, All, Contains, inl, inr, eqb-true}
use Rattle.std.proofs.lemmas.Bool.{true≢false, both_ways, or_parts, and_parts, not-false, not-true, cases_Bool}
use Rattle.std.proofs.lemmas.List.Elements.{All-nil, All-cons, All-head, All-tail, All-append, All-filter, All-map, All-weaker, All-contains, All-contains_itself, Contains-get_or, Contains-append_right, filter-append, filter_passes}
use Rattle.std.proofs.lemmas.List.Folds.{list_any-append}
use Rattle.std.specs.List.{list_any}
use Rattle.xf_types.specs.declared.policy.Policy.{Policy}
use Rattle.xf_types.specs.declared.state.Sa.{Sa}
use Rattle.xf_types.specs.declared.call.Call.{Call}
use Rattle.xf_types.specs.declared.call.Call.TheVariants as call
use Rattle.xf_types.specs.declared.call.Receipt.{Receipt}
use Rattle.xf_types.specs.declared.call.Reply.{Reply}
use Rattle.xf_types.specs.Machine.{Machine, Shown}
use Rattle.xf_types.specs.PolicyList.{without}
use Rattle.xf_types.specs.StateList.{has_sid}
use Rattle.xf_types.specs.Steps.{step, rule_of, by_rule}
use Rattle.xf_types.specs.Moves.{after_move}
use Rattle.xf_types.specs.ChangeIds.{same_flag, same_policies, sets_thresholds, changes_policies, refreshes, is_listed_as, states_changed}
use Rattle.xf_types.specs.IsMachine.{IsPolicyList, IsStateList}
use Rattle.xf_laws.specs.StepLaws.{is_tick}
use Rattle.xf_laws.specs.LeaveLaws.{is_listed}
use Rattle.xf_laws.specs.NewLaws.{IsNewState}
use Rattle.xf_laws.proofs.BesideLemmas.{listed-given}
use Rattle.xf_laws.specs.ChangeLaws.{is_ticked, IsReceiptOf, HaveSamePolicies, IsByPlace}
use Rattle.xf_laws.proofs.TrafficKeepLemmas.{only-one, only-one_by}
use Rattle.xf_laws.proofs.MoveLemmas.{call-moved}
use Rattle.xf_laws.proofs.FormLemmas.{IsPolicyOf}
use Rattle.xf_laws.proofs.StateFormLemmas.{AreStatesOf, no-more}
use Rattle.xf_laws.proofs.ToldLemmas.{told}

-- what is shown after the move is what the machine shows
pub receipt-moved : (m : Machine) (r : Receipt) → IsReceiptOf m r → (step m r.call).machine.shown ≡ after_move m.shown r.call r.reply
receipt-moved m r h = call-moved m r.call h.machine ∙ ap (after_move m.shown r.call) (sym h.reply)

-- time passes by a tick alone
not-tick : (m : Machine) (c : Call) → is_ticked (by_rule m (rule_of m.shown c)).reply ≡ false → is_tick c ≡ false
not-tick m (call.Tick given) e = e
not-tick m _ e = refl

-- the time
pub move-time : (m : Machine) (r : Receipt) → IsReceiptOf m r → is_ticked r.reply ≡ false
    → (after_move m.shown r.call r.reply).time ≡ m.shown.time
move-time m r h still =
    ap (λ (s : Shown). s.time) (sym (receipt-moved m r h))
    ∙ (told m r.call h.machine).time (not-tick m r.call (ap is_ticked (sym h.reply) ∙ still))

-- equal flags
flags-equal : (a b : Bool) → same_flag a b ≡ true → b ≡ a
flags-equal true b e = e
flags-equal false b e = not-true b e

-- a policy after a call with the number and the flag of a listed one is that one
one-policy : (s : Shown) (p q : Policy) → IsPolicyList s → Contains s.policies p → IsPolicyOf s q → p.number ≡ q.number → q.soft ≡ p.soft
    → q ≡ p
one-policy s p q h here (inl old) number soft =
    let was : Policy = old.old in
    let same : p ≡ was =
    All-contains (λ (y : Policy). y.number ≡ was.number → y ≡ was) s.policies p
    (only-one_by (λ (y : Policy). y.number) s.policies was old.here h.numbers) here
    (number ∙ ap (λ (y : Policy). y.number) old.same) in
    ap (λ (b : Bool). record q { soft = b }) (soft ∙ ap (λ (y : Policy). y.soft) same) ∙ old.same ∙ sym same
one-policy s p q h here (inr new) number soft =
    let less = All-contains (λ (y : Policy). y.number < s.next_number) s.policies p h.numbers_given here in
    let next = new.number in
    absurd (omega arith)

-- two lists with the same numbers and flags are one
one-list : (s : Shown) (ps qs : List Policy) → IsPolicyList s → All (Contains s.policies) ps → All (IsPolicyOf s) qs
    → same_policies ps qs ≡ true → qs ≡ ps
one-list s [] [] h here all e = refl
one-list s [] (q ∷ qs) h here all e = absurd (true≢false (sym e))
one-list s (p ∷ ps) [] h here all e = absurd (true≢false (sym e))
one-list s (p ∷ ps) (q ∷ qs) h here all e =
    let parts = and_parts ((p.number == q.number) && same_flag p.soft q.soft) (same_policies ps qs) e in
    let first = and_parts (p.number == q.number) (same_flag p.soft q.soft) parts.0 in
    let one : q ≡ p =
    one-policy s p q h (All-head (Contains s.policies) p ps here) (All-head (IsPolicyOf s) q qs all) (eqb-true p.number q.number first.0)
    (flags-equal p.soft q.soft first.1) in
    let rest : qs ≡ ps =
    one-list s ps qs h (All-tail (Contains s.policies) p ps here) (All-tail (IsPolicyOf s) q qs all) parts.1 in
    λ i. one i ∷ rest i

-- the policies and the thresholds
pub move-policies : (m : Machine) (r : Receipt) → IsReceiptOf m r → changes_policies m.shown r ≡ false
    → HaveSamePolicies m.shown (after_move m.shown r.call r.reply)
move-policies m r h unchanged =
    let s = m.shown in
    let n = (step m r.call).machine.shown in
    let moved = receipt-moved m r h in
    let tells = told m r.call h.machine in
    let parts = or_parts (not (same_policies s.policies (after_move s r.call r.reply).policies)) (sets_thresholds r.reply) unchanged in
    let alike : same_policies s.policies n.policies ≡ true =
    ap (λ (t : Shown). same_policies s.policies t.policies) moved
    ∙ not-false (same_policies s.policies (after_move s r.call r.reply).policies) parts.0 in
    let kept = tells.thresholds (ap sets_thresholds (sym h.reply) ∙ parts.1) in
    subst (HaveSamePolicies s) moved
    (record {
      policies = one-list s s.policies n.policies h.machine.shown.policies (All-contains_itself s.policies) tells.policies alike;
      hthresh4 = kept.0;
      hthresh6 = kept.1;
    })

-- what follows of each element that passes follows where some element does
any-gives : {X : Type 0} (test : X → Bool) (xs : List X) (Q : Type 0) → list_any test xs ≡ true → All (λ x. test x ≡ true → Q) xs → Q
any-gives test [] Q = λ e all. absurd (true≢false (sym e))
any-gives test (x ∷ xs) Q =
    elim (test x) as (λ b. test x ≡ b → (b || list_any test xs) ≡ true → All (λ y. test y ≡ true → Q) (x ∷ xs) → Q) [
      | true ↦ λ is e all. All-head (λ y. test y ≡ true → Q) x xs all is
      | false ↦ λ is e all. any-gives test xs Q e (All-tail (λ y. test y ≡ true → Q) x xs all)
    ] refl

-- where none of those that are kept passes, each that passes isn't kept
none-kept : {X : Type 0} (keep test : X → Bool) (xs : List X) → list_any test (filter keep xs) ≡ false
    → All (λ x. test x ≡ true → keep x ≡ false) xs
none-kept {X} keep test [] = λ e. All-nil (λ x. test x ≡ true → keep x ≡ false)
none-kept {X} keep test (x ∷ xs) =
    let P : X → Type 0 = λ y. test y ≡ true → keep y ≡ false in
    elim (keep x)
    as (λ b. keep x ≡ b → list_any test (cond b (x ∷ filter keep xs) (filter keep xs)) ≡ false → All P (x ∷ xs)) [
      | true ↦ λ is e.
          let parts = or_parts (test x) (list_any test (filter keep xs)) e in
          All-cons P x xs (λ passes. absurd (both_ways (test x) parts.0 passes)) (none-kept keep test xs parts.1)
      | false ↦ λ is e. All-cons P x xs (λ passes. is) (none-kept keep test xs e)
    ] refl

-- a state is not left out, and isn't changed
record IsLeft (leaves : Sa → Bool) (change : Sa → Sa) (x : Sa) : Type 0 where
  stays : leaves x ≡ false
  as_dying : (change x).dying ≡ x.dying

-- what is listed afterwards under a state's id, with its flag of dying, is what was made of it
still-left : (s : Shown) (c : Call) (r : Reply) (states : List Sa) (h : AreStatesOf s c r states) → IsStateList s → (x : Sa)
    → Contains s.states x → is_listed_as states x ≡ true → IsLeft h.leaves h.change x
still-left s c r states h is x here listed =
    let Q : Type 0 = IsLeft h.leaves h.change x in
    let test : Sa → Bool = λ y. has_sid x.sid y && same_flag x.dying y.dying in
    let P : Sa → Type 0 = λ y. test y ≡ true → Q in
    let stays : Sa → Bool = λ y. not (h.leaves y) in
    let left : List Sa = without h.leaves s.states in
    let one = only-one s.states x here is.sids in
    let less = All-contains (λ (y : Sa). y.sid < s.next_sid) s.states x is.sids_given here in
    any-gives test (map h.change left ++ h.new) Q (ap (λ (xs : List Sa). list_any test xs) (sym h.whole) ∙ listed)
    (All-append P (map h.change left) h.new
    (All-map P h.change left
    (λ k d within passes.
    let z : Sa = get_or left k d in
    let parts = and_parts (has_sid x.sid (h.change z)) (same_flag x.dying (h.change z).dying) passes in
    let same : z ≡ x =
    All-filter stays (λ (y : Sa). y.sid ≡ x.sid → y ≡ x) s.states one k d within
    (sym (h.is.sid z) ∙ eqb-true (h.change z).sid x.sid parts.0) in
    record {
      stays = ap h.leaves (sym same) ∙ not-true (h.leaves z) (filter_passes stays s.states k d within);
      as_dying = ap (λ (y : Sa). (h.change y).dying) (sym same) ∙ flags-equal x.dying (h.change z).dying parts.1;
    }))
    (All-weaker (IsNewState s) P
    (λ y new passes.
    let same = eqb-true y.sid x.sid (and_parts (has_sid x.sid y) (same_flag x.dying y.dying) passes).0 in
    let next = new.sid in
    absurd (omega arith))
    h.new h.begun))

-- a state that passes stays as it is
record StaysAsIs (leaves : Sa → Bool) (change : Sa → Sa) (x : Sa) : Type 0 where
  stays : leaves x ≡ false
  as_is : change x ≡ x

-- where each that passes stays as it is, the same pass
same-passing : (test leaves : Sa → Bool) (change : Sa → Sa) → ((x : Sa) → test (change x) ≡ test x) → (xs : List Sa)
    → All (λ x. test x ≡ true → StaysAsIs leaves change x) xs → filter test (map change (without leaves xs)) ≡ filter test xs
same-passing test leaves change keeps [] all = refl
same-passing test leaves change keeps (x ∷ xs) all =
    let left : List Sa = without leaves xs in
    let rest : List Sa = filter test (map change left) in
    let then : rest ≡ filter test xs =
    same-passing test leaves change keeps xs (All-tail (λ y. test y ≡ true → StaysAsIs leaves change y) x xs all) in
    elim (cases_Bool (test x)) [
      | inl passes ↦
          (let as_is = All-head (λ y. test y ≡ true → StaysAsIs leaves change y) x xs all passes in
          ap (λ (b : Bool). filter test (map change (cond (not b) (x ∷ left) left))) as_is.stays
          ∙ ap (λ (y : Sa). cond (test y) (y ∷ rest) rest) as_is.as_is
          ∙ ap (λ (ys : List Sa). cond (test x) (x ∷ ys) ys) then)
      | inr fails ↦
          dropped (leaves x) fails then
          ∙ sym (ap (λ (b : Bool). cond b (x ∷ filter test xs) (filter test xs)) fails)
    ]
  where
    dropped : (b : Bool) → test x ≡ false → filter test (map change (without leaves xs)) ≡ filter test xs
        → filter test (map change (cond (not b) (x ∷ without leaves xs) (without leaves xs))) ≡ filter test xs
    dropped true fails then = then
    dropped false fails then =
        ap (λ (b : Bool). cond b (change x ∷ filter test (map change (without leaves xs))) (filter test (map change (without leaves xs)))) (keeps x ∙ fails)
        ∙ then

-- where none passes none is kept
none-passing : (test : Sa → Bool) (xs : List Sa) → All (λ x. test x ≡ false) xs → filter test xs ≡ []
none-passing test [] none = refl
none-passing test (x ∷ xs) none =
    ap (λ (b : Bool). cond b (x ∷ filter test xs) (filter test xs)) (All-head (λ y. test y ≡ false) x xs none)
    ∙ none-passing test xs (All-tail (λ y. test y ≡ false) x xs none)

-- where no state that is changed, removed or added passes, the same pass
same-states-pass : (s : Shown) (c : Call) (r : Reply) (states : List Sa) (h : AreStatesOf s c r states) → IsStateList s → (test : Sa → Bool)
    → IsByPlace test
    → list_any test
    (filter (λ x. not (is_listed_as states x) || refreshes c r x.sid) s.states ++ filter (λ x. not (list_any (has_sid x.sid) s.states)) states)
    ≡ false
    → filter test states ≡ filter test s.states
same-states-pass s c r states h is test by_place e =
    let keep : Sa → Bool = λ x. not (is_listed_as states x) || refreshes c r x.sid in
    let fresh : Sa → Bool = λ x. not (list_any (has_sid x.sid) s.states) in
    let left : List Sa = map h.change (without h.leaves s.states) in
    let parts = or_parts (list_any test (filter keep s.states)) (list_any test (filter fresh states)) (sym (list_any-append test (filter keep s.states) (filter fresh states)) ∙ e) in
    let old = none-kept keep test s.states parts.0 in
    let added : All (λ x. test x ≡ true → fresh x ≡ false) (left ++ h.new) =
    subst (λ (xs : List Sa). All (λ x. test x ≡ true → fresh x ≡ false) xs) h.whole (none-kept fresh test states parts.1) in
    let as_is : All (λ x. test x ≡ true → StaysAsIs h.leaves h.change x) s.states =
    λ k d within passes.
    let x : Sa = get_or s.states k d in
    let kept = or_parts (not (is_listed_as states x)) (refreshes c r x.sid) (old k d within passes) in
    let stays = still-left s c r states h is x (Contains-get_or s.states k d within) (not-false (is_listed_as states x) kept.0) in
    record { stays = stays.stays; as_is = h.is.same x kept.1 stays.as_dying } in
    let none : All (λ x. test x ≡ false) h.new =
    All-weaker (Contains h.new) (λ x. test x ≡ false)
    (λ x here.
    elim (cases_Bool (test x)) [
      | inl passes ↦
          (let listed = All-contains (λ y. test y ≡ true → fresh y ≡ false) (left ++ h.new) x added (Contains-append_right left h.new x here) passes in
          let less = listed-given x.sid s.next_sid s.states is.sids_given (not-false (is_listed x.sid s.states) listed) in
          let next = (All-contains (IsNewState s) h.new x h.begun here).sid in
          absurd (omega arith))
      | inr fails ↦ fails
    ])
    h.new (All-contains_itself h.new) in
    ap (filter test) h.whole
    ∙ filter-append test left h.new
    ∙ ap (λ (ys : List Sa). filter test left ++ ys) (none-passing test h.new none)
    ∙ sym (no-more (filter test left))
    ∙ same-passing test h.leaves h.change (λ x. by_place (h.change x) x (h.is.sid x) (h.is.dst x) (h.is.reqid x)) s.states as_is

-- the states
pub move-states : (m : Machine) (r : Receipt) (test : Sa → Bool) → IsReceiptOf m r → IsByPlace test
    → list_any test (states_changed m.shown r) ≡ false
    → filter test (after_move m.shown r.call r.reply).states ≡ filter test m.shown.states
move-states m r test h by_place unchanged =
    let n = (step m r.call).machine.shown in
    let are : AreStatesOf m.shown r.call r.reply n.states =
    subst (λ (x : Reply). AreStatesOf m.shown r.call x n.states) (sym h.reply) (told m r.call h.machine).states in
    let after : AreStatesOf m.shown r.call r.reply (after_move m.shown r.call r.reply).states =
    subst (λ (t : Shown). AreStatesOf m.shown r.call r.reply t.states) (receipt-moved m r h) are in
    same-states-pass m.shown r.call r.reply (after_move m.shown r.call r.reply).states after h.machine.shown.states test by_place unchanged

-- what is found is the first of those that pass
find-first : {X : Type 0} (test : X → Bool) (xs : List X) → find test xs ≡ find (λ x. true) (filter test xs)
find-first test [] = refl
find-first test (x ∷ xs) =
    elim (test x) as (λ b. cond b (Some x) (find test xs) ≡ find (λ y. true) (cond b (x ∷ filter test xs) (filter test xs))) [
      | true ↦ refl
      | false ↦ find-first test xs
    ]

-- the record of one state id
pub move-listed : (m : Machine) (r : Receipt) (sid : ℕ) → IsReceiptOf m r → list_any (has_sid sid) (states_changed m.shown r) ≡ false
    → find (has_sid sid) (after_move m.shown r.call r.reply).states ≡ find (has_sid sid) m.shown.states
move-listed m r sid h unchanged =
    find-first (has_sid sid) (after_move m.shown r.call r.reply).states
    ∙ ap (find (λ x. true)) (move-states m r (has_sid sid) h (λ x y same dst reqid. ap (λ (n : ℕ). n == sid) same) unchanged)
    ∙ sym (find-first (has_sid sid) m.shown.states)
