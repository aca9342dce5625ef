-- The first policy of a flow.
use Rattle.std.proofs.Common.{◌≡◌, Bool, true, false, ◌==◌, ◌&&◌, List, [], ◌∷◌, ◌++◌, refl, ap, sym, ◌∙◌, subst, cond, Option, None, Some, find, All}
use Rattle.std.proofs.lemmas.Bool.{and_parts}
use Rattle.std.proofs.lemmas.List.Elements.{All-head, All-tail}
use Rattle.xf_types.specs.declared.network.Flow.{Flow}
use Rattle.xf_types.specs.declared.network.Ptype.{Ptype}
use Rattle.xf_types.specs.declared.network.Ptype.TheVariants.{Main, Sub}
use Rattle.xf_types.specs.declared.policy.Policy.{Policy}
use Rattle.xf_types.specs.Same.{same_dir, same_ptype}
use Rattle.xf_types.specs.Selection.{matches}
use Rattle.xf_types.specs.PolicyList.{applies, first_policy, has_mark, or_else}
use Rattle.xf_types.proofs.Decisions.{Decides-same_ptype}
use Rattle.xf_laws.specs.FirstPolicyLaws.{IsFirst, NoneApplies}
use Rattle.xf_laws.proofs.ListLemmas.{FoundIn, found_in, find-none}

-- a place with none that pass before it is the one that is found
find-at : {X : Type 0} (test : X → Bool) (before after : List X) (x : X) → All (λ y. test y ≡ false) before → test x ≡ true
    → find test (before ++ x ∷ after) ≡ Some x
find-at test [] after x none is = ap (λ (b : Bool). cond b (Some x) (find test after)) is
find-at test (y ∷ before) after x none is =
    ap (λ (b : Bool). cond b (Some y) (find test (before ++ x ∷ after))) (All-head (λ z. test z ≡ false) y before none)
    ∙ find-at test before after x (All-tail (λ z. test z ≡ false) y before none) is

-- where all fail, nothing is found
none-found : {X : Type 0} (test : X → Bool) (xs : List X) → All (λ y. test y ≡ false) xs → find test xs ≡ None
none-found test [] none = refl
none-found test (y ∷ ys) none =
    ap (λ (b : Bool). cond b (Some y) (find test ys)) (All-head (λ z. test z ≡ false) y ys none)
    ∙ none-found test ys (All-tail (λ z. test z ≡ false) y ys none)

-- a policy that applies as one of a ptype is one
ptype-of : (ptype : Ptype) (flow : Flow) (p : Policy) → applies ptype flow p ≡ true → p.spec.ptype ≡ ptype
ptype-of ptype flow p e =
    let dir = same_dir p.spec.dir flow.dir in
    let kind = same_ptype p.spec.ptype ptype in
    let face = p.spec.if_id == flow.if_id in
    let sel = matches p.spec.sel flow in
    let mark = has_mark flow.mark p.spec.mark in
    let first = and_parts (((dir && kind) && face) && sel) mark e in
    let second = and_parts ((dir && kind) && face) sel first.0 in
    let third = and_parts (dir && kind) face second.0 in
    (Decides-same_ptype p.spec.ptype ptype).0 (and_parts dir kind third.0).1

-- a policy that was found as one of its ptype
first-of : (policies : List Policy) (flow : Flow) (p : Policy) (ptype : Ptype) → FoundIn (applies ptype flow) policies p
    → (ptype ≡ Main → NoneApplies Sub flow policies) → IsFirst policies flow p
first-of policies flow p ptype h no_sub =
    let same : p.spec.ptype ≡ ptype = ptype-of ptype flow p h.passes in
    record {
      before = h.before;
      after = h.after;
      place = h.place;
      applies = ap (λ (t : Ptype). applies t flow p) same ∙ h.passes;
      none_before = subst (λ (t : Ptype). NoneApplies t flow h.before) (sym same) h.none_before;
      no_sub = λ main. no_sub (sym same ∙ main);
    }

-- by the sub policy that was found, if one was
first-by : (policies : List Policy) (flow : Flow) (p : Policy) (sub : Option Policy) → find (applies Sub flow) policies ≡ sub
    → or_else sub (find (applies Main flow) policies) ≡ Some p → IsFirst policies flow p
first-by policies flow p None none e =
    first-of policies flow p Main (found_in (applies Main flow) policies p e) (λ main. find-none (applies Sub flow) policies none)
first-by policies flow p (Some q) found e =
    first-of policies flow p Sub (found_in (applies Sub flow) policies p (found ∙ e)) (λ main. absurd cc)

-- the first policy is one that applies first
pub first_policy-some : (policies : List Policy) (flow : Flow) (p : Policy) → first_policy policies flow ≡ Some p
    → IsFirst policies flow p
first_policy-some policies flow p e = first-by policies flow p (find (applies Sub flow) policies) refl e

-- where neither kind has one, none applies
none-by : (policies : List Policy) (flow : Flow) (sub : Option Policy) → find (applies Sub flow) policies ≡ sub
    → or_else sub (find (applies Main flow) policies) ≡ None → (ptype : Ptype) → NoneApplies ptype flow policies
none-by policies flow None none e Main = find-none (applies Main flow) policies e
none-by policies flow None none e Sub = find-none (applies Sub flow) policies none
none-by policies flow (Some q) found e ptype = absurd cc

-- where there is no first policy, none applies
pub first_policy-none : (policies : List Policy) (flow : Flow) → first_policy policies flow ≡ None → (ptype : Ptype)
    → NoneApplies ptype flow policies
first_policy-none policies flow e = none-by policies flow (find (applies Sub flow) policies) refl e

-- by its ptype, one that applies first is the first policy
one-by : (policies : List Policy) (flow : Flow) (p : Policy) (h : IsFirst policies flow p) (ptype : Ptype) → p.spec.ptype ≡ ptype
    → first_policy policies flow ≡ Some p
one-by policies flow p h Main is =
    ap (λ (o : Option Policy). or_else o (find (applies Main flow) policies)) (none-found (applies Sub flow) policies (h.no_sub is))
    ∙ (ap (find (applies Main flow)) h.place
    ∙ find-at (applies Main flow) h.before h.after p (subst (λ (t : Ptype). NoneApplies t flow h.before) is h.none_before)
    (ap (λ (t : Ptype). applies t flow p) (sym is) ∙ h.applies))
one-by policies flow p h Sub is =
    ap (λ (o : Option Policy). or_else o (find (applies Main flow) policies))
    (ap (find (applies Sub flow)) h.place
    ∙ find-at (applies Sub flow) h.before h.after p (subst (λ (t : Ptype). NoneApplies t flow h.before) is h.none_before)
    (ap (λ (t : Ptype). applies t flow p) (sym is) ∙ h.applies))

-- one that applies first is the first policy
pub first_policy-one : (policies : List Policy) (flow : Flow) (p : Policy) → IsFirst policies flow p
    → first_policy policies flow ≡ Some p
first_policy-one policies flow p h = one-by policies flow p h p.spec.ptype refl
