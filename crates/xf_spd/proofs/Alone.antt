-- The one policy that passes a test, and the list without it.
use Rattle.std.proofs.Common.{◌≡◌, ℕ, suc, ◌<◌, ◌==◌, Bool, true, false, not, cond, List, [], ◌∷◌, ◌++◌, length, get_or, refl, ap, sym, ◌∙◌, subst, arith, rules, AllPairs}
use Rattle.std.proofs.lemmas.Bool.Decides.{nat_tests}
use Rattle.std.proofs.lemmas.List.Kept.{AllPairs-filter}
use Rattle.std.proofs.lemmas.List.Elements.{All-filter}
use Rattle.std.specs.Prelude.{IsTrue}
use Rattle.xf_types.specs.declared.network.Dir.{Dir}
use Rattle.xf_types.specs.declared.network.Mark.{Mark}
use Rattle.xf_types.specs.declared.network.Ptype.{Ptype}
use Rattle.xf_types.specs.declared.network.Selector.{Selector}
use Rattle.xf_types.specs.declared.policy.Policy.{Policy}
use Rattle.xf_types.specs.declared.policy.PolicyKey.{PolicyKey}
use Rattle.xf_types.specs.declared.policy.PolicyKey.TheVariants as key
use Rattle.xf_types.specs.declared.policy.PolicySpec.{PolicySpec}
use Rattle.xf_types.specs.IsMachine.{IsPolicyList}
use Rattle.xf_types.specs.Machine.{Shown}
use Rattle.xf_types.specs.PolicyList.{AreSame, is_under, is_same, has_index, has_key, without, comes_after}
use Rattle.xf_types.proofs.Decisions.{Decides-is_same}
use Rattle.xf_chain.specs.Lists.{Misses}
use Rattle.xf_index.specs.Indexes.{slots_in, records_in, AllAre}
use Rattle.xf_image.specs.declared.area.PolicyArea.{PolicyArea}
use Rattle.xf_image.specs.Layout.{order_of}
use Rattle.xf_image.specs.Entries.{entries_without, slot_left, IsEntry, InOrder, with_policies}
use Rattle.xf_inexact.specs.Whole.{SpdStands}
use Rattle.xf_image.specs.Policies.{everyone}
use Rattle.xf_image.proofs.Parts.{misses_both, left_is}
use Rattle.xf_index.specs.Finds.{Found}
use Rattle.xf_index.proofs.Alls.{all_apart}
use Rattle.xf_listing.specs.declared.entry.Entry.{Entry}
use Rattle.xf_listing.proofs.Named.{turned}

-- no two pass
abbrev pub Alone : (Policy → Bool) → List Policy → Type 0
Alone test ps = AllPairs (λ p q. test p ≡ true → test q ≡ true → ⊥) ps

-- ---- the others fail

pub fails_by : (b : Bool) → (b ≡ true → ⊥) → b ≡ false
fails_by true f = absurd (f refl)
fails_by false f = refl

pub all_fail : (test : Policy → Bool) (p : Policy) (es : List (ℕ × Policy)) → test p ≡ true
    → ((j : ℕ) (d : Policy) → j < length (records_in es) → test p ≡ true → test (get_or (records_in es) j d) ≡ true → ⊥) → AllAre test false es
all_fail test p [] h f = search rules
all_fail test p (x ∷ es) h f =
    (fails_by (test x.1) (λ e. f 0 p (omega arith) h e), all_fail test p es h (λ j d l. f (suc j) d (omega arith)))

back_fails : (test : Policy → Bool) (p : Policy) (slot : ℕ) (front back : List (ℕ × Policy)) → test p ≡ true → Alone test (records_in (front ++ ((slot, p) ∷ back)))
    → AllAre test false back
back_fails test p slot [] back h a = all_fail test p back h (λ j d l. a 0 (suc j) d (omega arith) (omega arith))
back_fails test p slot (x ∷ front) back h a = back_fails test p slot front back h (λ i j d lt within. a (suc i) (suc j) d (omega arith) (omega arith))

pub kept_all : (test : Policy → Bool) (es : List (ℕ × Policy)) → AllAre test false es → entries_without test es ≡ es
kept_all test [] a = refl
kept_all test (e ∷ es) a =
    ap (λ (b : Bool). cond (not b) (e ∷ entries_without test es) (entries_without test es)) a.0 ∙ ap (λ (r : List (ℕ × Policy)). e ∷ r) (kept_all test es a.1)

one_gone : (test : Policy → Bool) (slot : ℕ) (p : Policy) (front back : List (ℕ × Policy)) → AllAre test false front → test p ≡ true → AllAre test false back
    → entries_without test (front ++ ((slot, p) ∷ back)) ≡ front ++ back
one_gone test slot p [] back a h b = ap (λ (c : Bool). cond (not c) ((slot, p) ∷ entries_without test back) (entries_without test back)) h ∙ kept_all test back b
one_gone test slot p (e ∷ front) back a h b =
    ap (λ (c : Bool). cond (not c) (e ∷ entries_without test (front ++ ((slot, p) ∷ back))) (entries_without test (front ++ ((slot, p) ∷ back)))) a.0
    ∙ ap (λ (l : List (ℕ × Policy)). e ∷ l) (one_gone test slot p front back a.1 h b)

record_step : (b : Bool) (e : ℕ × Policy) (es : List (ℕ × Policy)) (ps : List Policy) → records_in es ≡ ps → records_in (cond b (e ∷ es) es) ≡ cond b (e.1 ∷ ps) ps
record_step true e es ps h = ap (λ (l : List Policy). e.1 ∷ l) h
record_step false e es ps h = h

pub records_without : (test : Policy → Bool) (es : List (ℕ × Policy)) → records_in (entries_without test es) ≡ without test (records_in es)
records_without test [] = refl
records_without test (e ∷ es) = record_step (not (test e.1)) e (entries_without test es) (without test (records_in es)) (records_without test es)

-- ---- what was found leaves

pub entry_of : (test : Policy → Bool) (f : Entry) (es : List (ℕ × Policy)) → Found test f.slot f.policy es → IsEntry es f.slot f.policy
entry_of test f es b = record { front = b.front; behind = b.back; whole = b.whole }

pub gone_is : (test : Policy → Bool) (f : Entry) (es : List (ℕ × Policy)) → Alone test (records_in es) → (b : Found test f.slot f.policy es) → entries_without test es ≡ b.front ++ b.back
gone_is test f es alone b =
    ap (λ (xs : List (ℕ × Policy)). entries_without test xs) b.whole
    ∙ one_gone test f.slot f.policy b.front b.back b.before b.passes
    (back_fails test f.policy f.slot b.front b.back b.passes (subst (λ (xs : List (ℕ × Policy)). Alone test (records_in xs)) b.whole alone))

pub parts_miss : (a : PolicyArea) (image : List ℕ) (s : Shown) (slot : ℕ) (p : Policy) (front back : List (ℕ × Policy)) → SpdStands a image s (front ++ ((slot, p) ∷ back))
    → Misses slot (slots_in front) × Misses slot (slots_in back)
parts_miss a image s slot p front back g =
    misses_both slot p front back (all_apart (order_of a) image everyone (front ++ ((slot, p) ∷ back)) (λ q. refl) (omega arith) g.list.links.order)

pub left_gone : (a : PolicyArea) (image : List ℕ) (s : Shown) (test : Policy → Bool) (f : Entry) (es : List (ℕ × Policy)) → SpdStands a image s es → Alone test s.policies → Found test f.slot f.policy es
    → slot_left f.slot es ≡ entries_without test es
left_gone a image s test f es g alone b =
    let old : SpdStands a image s (b.front ++ ((f.slot, f.policy) ∷ b.back)) = subst (λ (xs : List (ℕ × Policy)). SpdStands a image s xs) b.whole g in
    let m = parts_miss a image s f.slot f.policy b.front b.back old in
    let al : Alone test (records_in es) = subst (λ (ps : List Policy). Alone test ps) (sym g.list.listed) alone in
    ap (λ (xs : List (ℕ × Policy)). slot_left f.slot xs) b.whole ∙ (left_is f.slot f.policy b.front b.back m.0 m.1 ∙ sym (gone_is test f es al b))

-- ---- keys name at most one

is_true : (b : Bool) → b ≡ true → IsTrue b
is_true b e = e

both_same : (a p q : PolicySpec) → is_same a p ≡ true → is_same a q ≡ true → is_same p q ≡ true
both_same a p q e h =
    let s : AreSame a p = (Decides-is_same a p).0 e in
    let t : AreSame a q = (Decides-is_same a q).0 h in
    (Decides-is_same p q).1 (record { dir = sym s.dir ∙ t.dir; ptype = sym s.ptype ∙ t.ptype; if_id = sym s.if_id ∙ t.if_id; sel = sym s.sel ∙ t.sel; mark = sym s.mark ∙ t.mark })

both_index : (index p q : ℕ) → (p == index) ≡ true → (q == index) ≡ true → p ≡ q
both_index index p q e h = grind (arith, nat_tests)

pub index_alone : (s : Shown) (index : ℕ) → IsPolicyList s → Alone (has_index index) s.policies
index_alone s index l = λ i j d lt within e h. l.indices i j d lt within (both_index index _ _ e h)

under_spec : Dir → Ptype → Selector → Mark → ℕ → PolicySpec → PolicySpec
under_spec dir ptype sel mark if_id spec = record spec { dir = dir; ptype = ptype; sel = sel; mark = mark; if_id = if_id }

under_alone : (s : Shown) (dir : Dir) (ptype : Ptype) (sel : Selector) (mark : Mark) (if_id : ℕ) → IsPolicyList s → Alone (λ p. is_under dir ptype sel mark if_id p.spec) s.policies
unfolding under_spec
under_alone s dir ptype sel mark if_id l = λ i j d lt within e h.
    l.keys i j d lt within (is_true _ (both_same (under_spec dir ptype sel mark if_id (get_or s.policies i d).spec) (get_or s.policies i d).spec (get_or s.policies j d).spec e h))

pub key_alone : (s : Shown) (k : PolicyKey) → IsPolicyList s → Alone (has_key k) s.policies
key_alone s (key.Index dir index) l = index_alone s index l
key_alone s (key.Same dir ptype sel mark if_id) l = under_alone s dir ptype sel mark if_id l

pub same_alone : (s : Shown) (spec : PolicySpec) → IsPolicyList s → Alone (λ p. is_same p.spec spec) s.policies
same_alone s spec l = λ i j d lt within e h.
    l.keys i j d lt within (is_true _ (both_same spec (get_or s.policies i d).spec (get_or s.policies j d).spec (turned (get_or s.policies i d).spec spec e) (turned (get_or s.policies j d).spec spec h)))

-- ---- the shorter list is in order

pub in_order : (s : Shown) → IsPolicyList s → InOrder s
in_order s l = record { ordered = l.ordered; numbers_given = l.numbers_given }

pub shorter_order : (s : Shown) (test : Policy → Bool) → IsPolicyList s → InOrder (with_policies s (without test s.policies))
shorter_order s test l = record {
  ordered = AllPairs-filter (λ p q. IsTrue (comes_after q p)) (λ p. not (test p)) s.policies l.ordered;
  numbers_given = All-filter (λ p. not (test p)) (λ p. p.number < s.next_number) s.policies l.numbers_given;
}
