-- The entries without that of a slot.
use Rattle.std.proofs.Common.{◌≡◌, ◌≢◌, ℕ, ◌<◌, ◌==◌, Bool, true, false, not, cond, List, [], ◌∷◌, ◌++◌, Option, None, Some, refl, ap, sym, ◌∙◌, subst, arith, rules, append-nil, append_assoc}
use Rattle.std.proofs.lemmas.Bool.Decides.{nat_tests}
use Rattle.std.specs.Prelude.{All}
use Rattle.std.proofs.lemmas.List.Elements.{All-head, All-tail}
use Rattle.xf_types.specs.declared.state.Sa.{Sa}
use Rattle.xf_types.specs.declared.state.SaSpec.{SaSpec}
use Rattle.xf_types.specs.Machine.{Shown}
use Rattle.xf_types.specs.PolicyList.{without}
use Rattle.xf_chain.specs.Lists.{Misses, Apart, Within}
use Rattle.xf_chain.proofs.Slots.{misses_front, misses_back, misses_more}
use Rattle.xf_index.specs.Indexes.{slots_in, records_in}
use Rattle.xf_index.proofs.Entries.{slots_append, misses_taken}
use Rattle.xf_sad.specs.Changes.{is_slot, entries_but, new_state}
use Rattle.xf_sad.specs.Slots.{PoolFits, BackIf, IsListed, Where}
use Rattle.xf_sad.proofs.Pools.{pool_kept, pool_removed}

other_slot : (slot x : ℕ) → slot ≢ x → (x == slot) ≡ false
other_slot slot x n = grind (arith, nat_tests)

itself : (slot : ℕ) → (slot == slot) ≡ true
itself slot = grind (arith, nat_tests)

-- where no slot is named all stay
pub but_none : (es : List (ℕ × Sa)) → entries_but None es ≡ es
but_none [] = refl
but_none (e ∷ es) = ap (λ (l : List (ℕ × Sa)). e ∷ l) (but_none es)

but_missing : (slot : ℕ) (es : List (ℕ × Sa)) → Misses slot (slots_in es) → entries_but (Some slot) es ≡ es
but_missing slot [] m = refl
but_missing slot (e ∷ es) m =
    ap (λ (b : Bool). cond (not b) (e ∷ entries_but (Some slot) es) (entries_but (Some slot) es)) (other_slot slot e.0 m.0)
    ∙ ap (λ (l : List (ℕ × Sa)). e ∷ l) (but_missing slot es m.1)

but_parts : (slot : ℕ) (r : Sa) (front back : List (ℕ × Sa)) → Misses slot (slots_in front) → Misses slot (slots_in back)
    → entries_but (Some slot) (front ++ ((slot, r) ∷ back)) ≡ front ++ back
but_parts slot r [] back m n =
    ap (λ (b : Bool). cond (not b) ((slot, r) ∷ entries_but (Some slot) back) (entries_but (Some slot) back)) (itself slot) ∙ but_missing slot back n
but_parts slot r (e ∷ front) back m n =
    ap (λ (b : Bool). cond (not b) (e ∷ entries_but (Some slot) (front ++ ((slot, r) ∷ back))) (entries_but (Some slot) (front ++ ((slot, r) ∷ back)))) (other_slot slot e.0 m.0)
    ∙ ap (λ (l : List (ℕ × Sa)). e ∷ l) (but_parts slot r front back m.1 n)

-- the others are those before it and those behind it
pub but_between : (slot : ℕ) (r : Sa) (front back : List (ℕ × Sa)) → Apart (slots_in (front ++ ((slot, r) ∷ back)))
    → entries_but (Some slot) (front ++ ((slot, r) ∷ back)) ≡ front ++ back
but_between slot r front back apart =
    let m : Misses slot (slots_in front ++ slots_in back) =
    subst (λ (xs : List ℕ). Misses slot xs) (slots_append front back) (misses_taken front back slot r apart) in
    but_parts slot r front back (misses_front slot (slots_in front) (slots_in back) m) (misses_back slot (slots_in front) (slots_in back) m)

misses_step : (x : ℕ) (e : ℕ × Sa) (es fs : List (ℕ × Sa)) (b : Bool) → x ≢ e.0 → Misses x (slots_in fs) → Misses x (slots_in (cond b (e ∷ fs) fs))
misses_step x e es fs true n m = (n, m)
misses_step x e es fs false n m = m

-- what isn't among all isn't among the others
pub but_misses : (x : ℕ) (out : Option ℕ) (es : List (ℕ × Sa)) → Misses x (slots_in es) → Misses x (slots_in (entries_but out es))
but_misses x out [] m = search rules
but_misses x out (e ∷ es) m = misses_step x e es (entries_but out es) (not (is_slot out e.0)) m.0 (but_misses x out es m.1)

record_step : (b c : Bool) (e : ℕ × Sa) (es : List (ℕ × Sa)) (rs : List Sa) → c ≡ b → records_in es ≡ rs → records_in (cond (not b) (e ∷ es) es) ≡ cond (not c) (e.1 ∷ rs) rs
record_step b c e es rs same h = by b ∙ ap (λ (x : Bool). cond (not x) (e.1 ∷ rs) rs) (sym same)
  where
    by : (b : Bool) → records_in (cond (not b) (e ∷ es) es) ≡ cond (not b) (e.1 ∷ rs) rs
    by true = h
    by false = ap (λ (l : List Sa). e.1 ∷ l) h

-- a test that holds of the state in that slot alone leaves the same
pub but_records : (leaves : Sa → Bool) (out : Option ℕ) (es : List (ℕ × Sa)) → All (λ (e : ℕ × Sa). leaves e.1 ≡ is_slot out e.0) es
    → records_in (entries_but out es) ≡ without leaves (records_in es)
but_records leaves out [] tests = refl
but_records leaves out (e ∷ es) tests =
    record_step (is_slot out e.0) (leaves e.1) e (entries_but out es) (without leaves (records_in es))
    (All-head (λ (x : ℕ × Sa). leaves x.1 ≡ is_slot out x.0) e es tests)
    (but_records leaves out es (All-tail (λ (x : ℕ × Sa). leaves x.1 ≡ is_slot out x.0) e es tests))

-- ---- a new state

-- the record of a new state
abbrev pub state_with : ℕ → ℕ → Bool → SaSpec → Sa
state_with sid now larval spec = record { sid = sid; added = now; larval = larval; dying = false; spec = spec }

pub new_is : (s : Shown) (spec : SaSpec) (larval : Bool) (sid now : ℕ) → sid ≡ s.next_sid → s.time ≡ now
    → state_with sid now larval spec ≡ new_state s (record { spec = spec; larval = larval })
new_is s spec larval sid now e t = ap (λ (n : ℕ). state_with n now larval spec) e ∙ ap (λ (n : ℕ). state_with s.next_sid n larval spec) (sym t)

-- ---- the slots, where one was given and another one went back

differs_between : (x y : ℕ) (front back : List ℕ) → Misses x (front ++ (y ∷ back)) → x ≢ y
differs_between x y [] back m = m.0
differs_between x y (z ∷ front) back m = differs_between x y front back m.1

pub within_between : (n y : ℕ) (front back : List ℕ) → Within n (front ++ (y ∷ back)) → y < n
within_between n y [] back w = w.0
within_between n y (z ∷ front) back w = within_between n y front back w.1

pub where_weaker : (P Q : ℕ → Type 0) (o : Option ℕ) → ((x : ℕ) → P x → Q x) → Where P o → Where Q o
where_weaker P Q None f h = tt
where_weaker P Q (Some x) f h = f x h

pub pool_replaced : (all out out' slots slot : ℕ) (lasts was is : Bool) (gave gives took takes : ℕ → Type 0) (gone : Option ℕ) (es : List (ℕ × Sa))
    → Where (IsListed es) gone → Apart (slots_in es) → Within slots (slots_in es) → Misses slot (slots_in es)
    → PoolFits all out gave took slots (slots_in es ++ (slot ∷ [])) → BackIf gone lasts out out' was is gave gives took takes → lasts ≡ true
    → PoolFits all out' gives takes slots (slots_in (entries_but gone es) ++ (slot ∷ []))
pool_replaced all out out' slots slot lasts was is gave gives took takes None es listed apart within miss fits back l =
    subst (λ (xs : List (ℕ × Sa)). PoolFits all out' gives takes slots (slots_in xs ++ (slot ∷ []))) (sym (but_none es))
    (pool_kept all out out' slots was is gave gives took takes (slots_in es ++ (slot ∷ [])) fits back)
pool_replaced all out out' slots slot lasts was is gave gives took takes (Some one) es listed apart within miss fits back l =
    let front : List ℕ = slots_in listed.front in
    let behind : List ℕ = slots_in listed.behind in
    let whole : slots_in es ≡ front ++ (one ∷ behind) = ap (λ (xs : List (ℕ × Sa)). slots_in xs) listed.whole ∙ slots_append listed.front ((one, listed.state) ∷ listed.behind) in
    let own : Apart (slots_in (listed.front ++ ((one, listed.state) ∷ listed.behind))) = subst (λ (xs : List (ℕ × Sa)). Apart (slots_in xs)) listed.whole apart in
    let left : slots_in (entries_but (Some one) es) ≡ front ++ behind =
    ap (λ (xs : List (ℕ × Sa)). slots_in (entries_but (Some one) xs)) listed.whole
    ∙ ap (λ (xs : List (ℕ × Sa)). slots_in xs) (but_between one listed.state listed.front listed.behind own) ∙ slots_append listed.front listed.behind in
    let long : slots_in es ++ (slot ∷ []) ≡ front ++ (one ∷ (behind ++ (slot ∷ []))) =
    ap (λ (xs : List ℕ). xs ++ (slot ∷ [])) whole ∙ append_assoc front (one ∷ behind) (slot ∷ []) in
    let apart_ : Misses one (front ++ behind) = subst (λ (xs : List ℕ). Misses one xs) (slots_append listed.front listed.behind) (misses_taken listed.front listed.behind one listed.state own) in
    let other : slot ≢ one = differs_between slot one front behind (subst (λ (xs : List ℕ). Misses slot xs) whole miss) in
    let more : Misses one ((front ++ behind) ++ (slot ∷ [])) =
    misses_more one slot (front ++ behind) [] (subst (λ (xs : List ℕ). Misses one xs) (sym (append-nil (front ++ behind))) apart_) (λ e. other (sym e)) in
    let inside : one < slots = within_between slots one front behind (subst (λ (xs : List ℕ). Within slots xs) whole within) in
    subst (λ (xs : List ℕ). PoolFits all out' gives takes slots xs) (sym (ap (λ (xs : List ℕ). xs ++ (slot ∷ [])) left ∙ append_assoc front behind (slot ∷ [])))
    (pool_removed all out out' slots one lasts gave gives took takes front (behind ++ (slot ∷ []))
    (subst (λ (xs : List ℕ). PoolFits all out gave took slots xs) long fits) back l inside
    (subst (λ (xs : List ℕ). Misses one xs) (append_assoc front behind (slot ∷ [])) more))
