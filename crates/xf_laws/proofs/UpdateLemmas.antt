-- The policies that an update or an add leaves.
use Rattle.std.proofs.Common.{ℕ, ◌≡◌, ◌+◌, ◌*◌, ◌==◌, Bool, true, false, not, ◌&&◌, nat_le, List, [], ◌∷◌, length, get_or, refl, ap, sym, ◌∙◌, subst, cond, Option, None, Some, find, All, AllPairs}
use Rattle.std.proofs.lemmas.Bool.{and_parts, not-true}
use Rattle.std.proofs.lemmas.Option.{same_Some}
use Rattle.std.proofs.lemmas.List.Elements.{All-head, All-tail}
use Rattle.xf_types.specs.declared.policy.Policy.{Policy}
use Rattle.xf_types.specs.declared.policy.PolicySpec.{PolicySpec}
use Rattle.xf_types.specs.declared.call.Reply.{Reply}
use Rattle.xf_types.specs.declared.call.Reply.TheVariants.{DoneIndex, Invalid}
use Rattle.xf_types.specs.Machine.{Shown}
use Rattle.xf_types.specs.Changes.{InPlace, answer, stays}
use Rattle.xf_types.specs.PolicyList.{is_same, without}
use Rattle.xf_types.specs.Same.{dir_number}
use Rattle.xf_types.specs.Counters.{next_in}
use Rattle.xf_types.specs.PolicyRules as p
use Rattle.xf_types.specs.IsMachine.{IsShownPart}
use Rattle.xf_types.proofs.Decisions.{Decides-is_same}
use Rattle.xf_laws.specs.UpdateLaws.{IsOneLess, Replaces}
use Rattle.xf_laws.proofs.ListLemmas.{AllPairs-head, AllPairs-tail}
use Rattle.xf_laws.proofs.FreeLemmas.{index-free}

-- where each fails the test, all are left
all-left : {X : Type 0} (test : X → Bool) (xs : List X) → All (λ x. test x ≡ false) xs → without test xs ≡ xs
all-left test [] all = refl
all-left test (x ∷ xs) all =
    subst (λ (b : Bool). cond (not b) (x ∷ without test xs) (without test xs) ≡ x ∷ xs)
    (sym (All-head (λ y. test y ≡ false) x xs all))
    (ap (λ (ys : List _). x ∷ ys) (all-left test xs (All-tail (λ y. test y ≡ false) x xs all)))

-- where no two pass, the one that is found leaves and no other
pub one-leaves : {X : Type 0} (test : X → Bool) (xs : List X) (x : X)
    → AllPairs (λ y z. test y ≡ true → test z ≡ false) xs → find test xs ≡ Some x → IsOneLess x xs (without test xs)
one-leaves test [] x = λ pairs e. absurd cc
one-leaves {X} test (y ∷ ys) x = λ pairs.
    elim (test y)
    as (λ b. test y ≡ b → cond b (Some y) (find test ys) ≡ Some x
    → IsOneLess x (y ∷ ys) (cond (not b) (y ∷ without test ys) (without test ys))) [
      | true ↦ λ is e.
          record {
            front = [];
            back = ys;
            whole = ap (λ (z : X). z ∷ ys) (sym (same_Some y x e));
            left =
                sym (all-left test ys
                (λ k d within. AllPairs-head (λ (a z : X). test a ≡ true → test z ≡ false) y ys pairs k d within is));
          }
      | false ↦ λ is e.
          (let rest = one-leaves test ys x (AllPairs-tail (λ (a z : X). test a ≡ true → test z ≡ false) y ys pairs) e in
          record {
            front = y ∷ rest.front;
            back = rest.back;
            whole = ap (λ (zs : List X). y ∷ zs) rest.whole;
            left = ap (λ (zs : List X). y ∷ zs) rest.left;
          })
    ] refl

-- what isn't true is false
is-false : (b : Bool) → (b ≡ true → ⊥) → b ≡ false
is-false true h = absurd (h refl)
is-false false h = refl

-- two policies that are the same as a third are the same
same-both : (a b spec : PolicySpec) → is_same a spec ≡ true → is_same b spec ≡ true → is_same a b ≡ true
same-both a b spec x y =
    let f = (Decides-is_same a spec).0 x in
    let g = (Decides-is_same b spec).0 y in
    (Decides-is_same a b).1
    (record {
      dir = f.dir ∙ sym g.dir;
      ptype = f.ptype ∙ sym g.ptype;
      if_id = f.if_id ∙ sym g.if_id;
      sel = f.sel ∙ sym g.sel;
      mark = f.mark ∙ sym g.mark;
    })

-- an update removes exactly the policy that is the same
pub update-replaces : (s : Shown) (spec : PolicySpec) (old : Policy) → IsShownPart s → p.is_bad_index spec ≡ false
    → p.policy_same_as s spec ≡ Some old → Replaces s spec old
update-replaces s spec old h fine e =
    let test : Policy → Bool = λ q. is_same q.spec spec in
    record {
      others = without test s.policies;
      one_less =
          one-leaves test s.policies old
          (λ i j d lt within x.
          is-false (test (get_or s.policies j d))
          (λ y. h.policies.keys i j d lt within (same-both (get_or s.policies i d).spec (get_or s.policies j d).spec spec x y)))
          e;
      answer =
          ap (λ b. cond b (stays Invalid) (p.policy_replaced_or_added s spec (p.policy_same_as s spec))) fine
          ∙ ap (p.policy_replaced_or_added s spec) e;
    }

-- the index of a reply
abbrev index_in : Reply → ℕ
index_in (DoneIndex index) = index
index_in _ = 0

-- the index that a new policy gets was free
listed-free : (s : Shown) (spec : PolicySpec) (index : ℕ) → IsShownPart s → (p.added_with_index s spec).reply ≡ DoneIndex index
    → p.is_index_taken s index ≡ false
listed-free s spec index h =
    let k = p.free_number s spec.dir in
    let fresh = 8 * k + dir_number spec.dir in
    let given = not (spec.index == 0) && not (p.is_index_taken s spec.index) in
    elim given
    as (λ b. given ≡ b
    → (cond b (answer (DoneIndex spec.index) (InPlace (p.with_policy s spec spec.index s.policies)))
    (answer (DoneIndex fresh) (InPlace (p.with_policy (record s { next_index = next_in p.last_index k }) spec fresh s.policies)))).reply
    ≡ DoneIndex index → p.is_index_taken s index ≡ false) [
      | true ↦ λ is e.
          subst (λ i. p.is_index_taken s i ≡ false) (ap index_in e)
          (not-true (p.is_index_taken s spec.index)
          (and_parts (not (spec.index == 0)) (not (p.is_index_taken s spec.index)) is).1)
      | false ↦ λ is e. subst (λ i. p.is_index_taken s i ≡ false) (ap index_in e) (index-free s spec.dir h)
    ] refl

-- so it is where there is room
room-free : (s : Shown) (spec : PolicySpec) (index : ℕ) → IsShownPart s → (p.policy_added_if_room s spec).reply ≡ DoneIndex index
    → p.is_index_taken s index ≡ false
room-free s spec index h =
    elim (nat_le s.max_policies (length s.policies))
    as (λ b. (cond b (p.full_of_policies s) (p.added_with_index s spec)).reply ≡ DoneIndex index → p.is_index_taken s index ≡ false) [
      | true ↦ λ e. absurd cc
      | false ↦ λ e. listed-free s spec index h e
    ]

-- and where no policy is the same
unless-free : (s : Shown) (spec : PolicySpec) (index : ℕ) (o : Option Policy) → IsShownPart s
    → (p.policy_added_unless_found s spec o).reply ≡ DoneIndex index → p.is_index_taken s index ≡ false
unless-free s spec index None h e = room-free s spec index h e
unless-free s spec index (Some old) h e = absurd cc

-- the index of a policy that is added was free
pub added-free : (s : Shown) (spec : PolicySpec) (index : ℕ) → IsShownPart s → (p.policy_add s spec).reply ≡ DoneIndex index
    → p.is_index_taken s index ≡ false
added-free s spec index h =
    elim (p.is_bad_index spec)
    as (λ b. (cond b (stays Invalid) (p.policy_added_unless_found s spec (p.policy_same_as s spec))).reply ≡ DoneIndex index
    → p.is_index_taken s index ≡ false) [
      | true ↦ λ e. absurd cc
      | false ↦ λ e. unless-free s spec index (p.policy_same_as s spec) h e
    ]
