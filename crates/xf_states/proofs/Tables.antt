-- The two lists of what is held, after some of it was changed.
use Rattle.std.proofs.Common.{arith, ◌≡◌, ◌≢◌, ℕ, zero, suc, ◌<◌, ◌==◌, Bool, true, false, cond, not, List, [], ◌∷◌, ◌++◌, length, get_or, set, map, filter, refl, ap, sym, ◌∙◌, All, eqb-true}
use Rattle.std.specs.Prelude.{AllPairs}
use Rattle.std.proofs.lemmas.List.{map-append}
use Rattle.std.proofs.lemmas.Bool.Decides.{nat_tests}
use Rattle.xf_types.specs.declared.state.Sa.{Sa}
use Rattle.xf_types.specs.Machine.{Own}
use Rattle.xf_types.specs.PolicyList.{without}
use Rattle.xf_types.specs.StateList.{has_sid, changed}
use Rattle.xf_types.specs.OwnParts.{own_without, own_of, own_put}
use Rattle.xf_held.specs.View.{HeldView}
use Rattle.xf_states.specs.Table.{table_of, table_without, table_with}

-- no two of them share a state id
abbrev pub AreApart : List HeldView → Type 0
AreApart hs = AllPairs (λ x y. x.state.sid ≢ y.state.sid) hs

-- ---- some leave

states_left : (leaves : Sa → Bool) (hs : List HeldView)
    → map (λ (h : HeldView). h.state) (filter (λ h. not (leaves h.state)) hs) ≡ without leaves (map (λ (h : HeldView). h.state) hs)
states_left leaves [] = refl
states_left leaves (h ∷ hs) =
    elim (leaves h.state)
    as (λ b. map (λ (x : HeldView). x.state) (cond (not b) (h ∷ filter (λ x. not (leaves x.state)) hs) (filter (λ x. not (leaves x.state)) hs))
    ≡ cond (not b) (h.state ∷ without leaves (map (λ (x : HeldView). x.state) hs)) (without leaves (map (λ (x : HeldView). x.state) hs)))
    [ true ↦ states_left leaves hs | false ↦ ap (λ ss. h.state ∷ ss) (states_left leaves hs) ]

own_left : (leaves : Sa → Bool) (hs : List HeldView)
    → map (λ (h : HeldView). h.own) (filter (λ h. not (leaves h.state)) hs)
    ≡ own_without leaves (map (λ (h : HeldView). h.state) hs) (map (λ (h : HeldView). h.own) hs)
own_left leaves [] = refl
own_left leaves (h ∷ hs) =
    let rest = own_without leaves (map (λ (x : HeldView). x.state) hs) (map (λ (x : HeldView). x.own) hs) in
    elim (leaves h.state)
    as (λ b. map (λ (x : HeldView). x.own) (cond (not b) (h ∷ filter (λ x. not (leaves x.state)) hs) (filter (λ x. not (leaves x.state)) hs))
    ≡ cond b rest (h.own ∷ rest))
    [ true ↦ own_left leaves hs | false ↦ ap (λ os. h.own ∷ os) (own_left leaves hs) ]

-- the table of those that are left
pub table_of-left : (leaves : Sa → Bool) (hs : List HeldView)
    → table_of (filter (λ h. not (leaves h.state)) hs) ≡ table_without leaves (table_of hs)
table_of-left leaves hs = λ i. record { states = states_left leaves hs i; own = own_left leaves hs i }

-- the table with one more
pub table_of-more : (hs : List HeldView) (h : HeldView) → table_of (hs ++ h ∷ []) ≡ table_with h (table_of hs)
table_of-more hs h = λ i. record {
  states = map-append (λ (x : HeldView). x.state) hs (h ∷ []) i;
  own = map-append (λ (x : HeldView). x.own) hs (h ∷ []) i;
}

-- ---- one is changed

AreApart-head : (h : HeldView) (hs : List HeldView) → AreApart (h ∷ hs) → All (λ x. h.state.sid ≢ x.state.sid) hs
AreApart-head h hs apart k d within = apart 0 (suc k) d (omega arith) (omega (arith, within))

AreApart-tail : (h : HeldView) (hs : List HeldView) → AreApart (h ∷ hs) → AreApart hs
AreApart-tail h hs apart i j d less within = apart (suc i) (suc j) d (omega (arith, less)) (omega (arith, within))

same_sid : (n : ℕ) → (n == n) ≡ true
same_sid n = grind (arith, nat_tests)

other_sid : (m n : ℕ) → (m ≢ n) → (n == m) ≡ false
other_sid m n apart = elim (n == m) as (λ b. (n == m) ≡ b → b ≡ false) [ true ↦ (λ e. absurd (apart (sym (eqb-true n m e)))) | false ↦ (λ e. refl) ] refl

-- a change of a state id that none has
changed-none : (sid : ℕ) (change : Sa → Sa) (hs : List HeldView) → All (λ x. sid ≢ x.state.sid) hs
    → map (λ (x : HeldView). x.state) hs ≡ changed sid change (map (λ (x : HeldView). x.state) hs)
changed-none sid change [] others = refl
changed-none sid change (h ∷ hs) others =
    let other = other_sid sid h.state.sid (others 0 h (omega arith)) in
    ap (λ b. cond b (change h.state) h.state ∷ map (λ (x : HeldView). x.state) hs) (sym other)
    ∙ ap (λ ss. cond (has_sid sid h.state) (change h.state) h.state ∷ ss)
    (changed-none sid change hs (λ k d within. others (suc k) d (omega (arith, within))))

-- the states after one of them was changed
pub changed-at : (change : Sa → Sa) (hs : List HeldView) (i : ℕ) (d new : HeldView) → AreApart hs → i < length hs
    → new.state ≡ change (get_or hs i d).state
    → map (λ (x : HeldView). x.state) (set hs i new) ≡ changed (get_or hs i d).state.sid change (map (λ (x : HeldView). x.state) hs)
changed-at change [] i d new apart within is = absurd (omega (arith, within))
changed-at change (h ∷ hs) zero d new apart within is =
    ap (λ s. s ∷ map (λ (x : HeldView). x.state) hs) (is ∙ ap (λ b. cond b (change h.state) h.state) (sym (same_sid h.state.sid)))
    ∙ ap (λ ss. cond (has_sid h.state.sid h.state) (change h.state) h.state ∷ ss)
    (changed-none h.state.sid change hs (AreApart-head h hs apart))
changed-at change (h ∷ hs) (suc i) d new apart within is =
    let sid = (get_or hs i d).state.sid in
    let other : (h.state.sid == sid) ≡ false = other_sid sid h.state.sid (λ e. AreApart-head h hs apart i d (omega (arith, within)) (sym e)) in
    ap (λ b. cond b (change h.state) h.state ∷ map (λ (x : HeldView). x.state) (set hs i new)) (sym other)
    ∙ ap (λ ss. cond (has_sid sid h.state) (change h.state) h.state ∷ ss)
    (changed-at change hs i d new (AreApart-tail h hs apart) (omega (arith, within)) is)

-- an own part put for a state id that none has
put-none : (sid : ℕ) (own : Own) (hs : List HeldView) → All (λ x. sid ≢ x.state.sid) hs
    → map (λ (x : HeldView). x.own) hs ≡ own_put sid own (map (λ (x : HeldView). x.state) hs) (map (λ (x : HeldView). x.own) hs)
put-none sid own [] others = refl
put-none sid own (h ∷ hs) others =
    let other = other_sid sid h.state.sid (others 0 h (omega arith)) in
    ap (λ b. cond b own h.own ∷ map (λ (x : HeldView). x.own) hs) (sym other)
    ∙ ap (λ os. cond (has_sid sid h.state) own h.own ∷ os)
    (put-none sid own hs (λ k d within. others (suc k) d (omega (arith, within))))

-- the own parts after one of them took another's place
pub put-at : (hs : List HeldView) (i : ℕ) (d new : HeldView) → AreApart hs → i < length hs
    → map (λ (x : HeldView). x.own) (set hs i new)
    ≡ own_put (get_or hs i d).state.sid new.own (map (λ (x : HeldView). x.state) hs) (map (λ (x : HeldView). x.own) hs)
put-at [] i d new apart within = absurd (omega (arith, within))
put-at (h ∷ hs) zero d new apart within =
    ap (λ b. cond b new.own h.own ∷ map (λ (x : HeldView). x.own) hs) (sym (same_sid h.state.sid))
    ∙ ap (λ os. cond (has_sid h.state.sid h.state) new.own h.own ∷ os)
    (put-none h.state.sid new.own hs (AreApart-head h hs apart))
put-at (h ∷ hs) (suc i) d new apart within =
    let sid = (get_or hs i d).state.sid in
    let other : (h.state.sid == sid) ≡ false = other_sid sid h.state.sid (λ e. AreApart-head h hs apart i d (omega (arith, within)) (sym e)) in
    ap (λ b. cond b new.own h.own ∷ map (λ (x : HeldView). x.own) (set hs i new)) (sym other)
    ∙ ap (λ os. cond (has_sid sid h.state) new.own h.own ∷ os)
    (put-at hs i d new (AreApart-tail h hs apart) (omega (arith, within)))

-- the own part of the state at a place
pub own_of-at : (hs : List HeldView) (i : ℕ) (d : HeldView) (none : Own) → AreApart hs → i < length hs
    → own_of (get_or hs i d).state.sid (map (λ (x : HeldView). x.state) hs) (map (λ (x : HeldView). x.own) hs) none ≡ (get_or hs i d).own
own_of-at [] i d none apart within = absurd (omega (arith, within))
own_of-at (h ∷ hs) zero d none apart within =
    ap (λ b. cond b h.own (own_of h.state.sid (map (λ (x : HeldView). x.state) hs) (map (λ (x : HeldView). x.own) hs) none)) (same_sid h.state.sid)
own_of-at (h ∷ hs) (suc i) d none apart within =
    let sid = (get_or hs i d).state.sid in
    let other : (h.state.sid == sid) ≡ false = other_sid sid h.state.sid (λ e. AreApart-head h hs apart i d (omega (arith, within)) (sym e)) in
    ap (λ b. cond b h.own (own_of sid (map (λ (x : HeldView). x.state) hs) (map (λ (x : HeldView). x.own) hs) none)) other
    ∙ own_of-at hs i d none (AreApart-tail h hs apart) (omega (arith, within))
