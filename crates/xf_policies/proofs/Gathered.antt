-- What those have that were shown all policies.
use Rattle.std.proofs.Common.{◌≡◌, ℕ, ◌+◌, ◌<◌, ◌≤◌, ◌^◌, Bool, true, false, not, cond, List, [], ◌∷◌, ◌++◌, Option, None, Some, Ok, Err, length, filter, map, refl, ap, sym, ◌∙◌, subst, arith, append_assoc}
use Rattle.std.specs.Prelude.{count_by, filter_map, is_some, IsOk, OnOk, is_err}
use Rattle.std.specs.declared.result.Result.{Result}
use Rattle.std.proofs.lemmas.Bool.{false≢true}
use Rattle.std.proofs.lemmas.List.Sums.{sum_by-cons}
use Rattle.xf_types.specs.declared.call.Event.{Event}
use Rattle.xf_types.specs.declared.policy.Policy.{Policy}
use Rattle.xf_types.specs.Machine.{Shown}
use Rattle.xf_types.specs.PolicyList.{without}
use Rattle.xf_types.specs.TickRules.{policy_ends, policy_warns, policy_later, policy_event, soft_if}
use Rattle.xf_index.specs.Indexes.{records_in}
use Rattle.xf_index.proofs.Entries.{records_length}
use Rattle.xf_image.specs.declared.area.PolicyArea.{PolicyArea}
use Rattle.xf_image.specs.Entries.{entries_without}
use Rattle.xf_inexact.specs.Whole.{SpdStands}
use Rattle.xf_policies.specs.declared.sweep.Sweep.{Sweep}
use Rattle.xf_policies.specs.declared.sweep.Sweep.TheVariants.{Later}
use Rattle.xf_policies.specs.declared.sweep.Fate.{Fate}
use Rattle.xf_policies.specs.declared.sweep.Fate.TheVariants.{Stays, Warned, Gone}
use Rattle.xf_policies.specs.Sweeps.{changes, changes_of, entries_swept, fate_by, fate_of, left_of}
use Rattle.xf_policies.specs.Standing.{IsSwept, entries_later, AreLater}
use Rattle.xf_policies.specs.Visits.{Visited, IsMore}
use Rattle.xf_policies.proofs.Cursors.{entries_few, records_nil}
use Rattle.xf_policies.proofs.Swept.{change_counts}

-- a walk that never fails passed all
pub all_seen : {T E : Type 0} (r : Result T E) (P : Type 0) → IsOk r → OnOk r P → P
all_seen (Ok x) P e h = h
all_seen (Err x) P e h = absurd (cc)

-- nor did one that wasn't refused
pub not_err : {T E : Type 0} (r : Result T E) (P : Type 0) → is_err r ≡ false → OnOk r P → P
not_err (Ok x) P e h = h
not_err (Err x) P e h = absurd (cc)

-- one that failed isn't one that never fails
pub not_both : {T E : Type 0} (r : Result T E) → IsOk r → is_err r ≡ true → ⊥
not_both (Ok x) e h = false≢true h
not_both (Err x) e h = false≢true e

-- no more policies are listed than a count can tell
pub list_few : (a : PolicyArea) (image : List ℕ) (s : Shown) (es : List (ℕ × Policy)) → a.slots ≤ 4096 → SpdStands a image s es → length s.policies < 2 ^ 32
list_few a image s es most st =
    let n = entries_few a image s es st in
    let r : length (records_in es) ≡ length es = records_length es in
    let l : length (records_in es) ≡ length s.policies = ap (λ (ps : List Policy). length ps) st.list.listed in
    omega (arith, most, n, r, l)

-- a count that goes up with each policy that passes a test
tallied : {V : Type 0} (goes : V → Policy → V → Type 0) (count : V → ℕ) (test : Policy → Bool)
    → ((v u : V) (p : Policy) → goes v p u → IsMore (cond (test p) 1 0) (count v) (count u))
    → (v w : V) (ps : List Policy) → Visited goes v ps w → count v + length ps < 2 ^ 32 → count w ≡ count v + count_by test ps
tallied goes count test step v w [] e few = let c : count w ≡ count v = ap (λ x. count x) (sym e) in omega (arith, c)
tallied goes count test step v w (p ∷ ps) k few =
    let one : count k.0 ≡ count v + cond {A = ℕ} (test p) 1 0 = step v k.0 p k.1.0 (omega (arith, few)) in
    let small : cond {A = ℕ} (test p) 1 0 ≤ 1 = at_most_one (test p) in
    let rest : count w ≡ count k.0 + count_by test ps = tallied goes count test step k.0 w ps k.1.1 (omega (arith, few, one, small)) in
    let more : count_by test (p ∷ ps) ≡ cond {A = ℕ} (test p) 1 0 + count_by test ps = sum_by-cons (λ q. cond (test q) 1 0) p ps in
    omega (arith, one, rest, more)
  where
    at_most_one : (b : Bool) → cond {A = ℕ} b 1 0 ≤ 1
    at_most_one true = omega arith
    at_most_one false = omega arith

pub tallied_all : {V : Type 0} (goes : V → Policy → V → Type 0) (count : V → ℕ) (test : Policy → Bool)
    → ((v u : V) (p : Policy) → goes v p u → IsMore (cond (test p) 1 0) (count v) (count u))
    → (v w : V) (ps : List Policy) → count v ≡ 0 → length ps < 2 ^ 32 → Visited goes v ps w → count w ≡ count_by test ps
tallied_all goes count test step v w ps none few k =
    let e : count w ≡ count v + count_by test ps = tallied goes count test step v w ps k (omega (arith, none, few)) in
    omega (arith, none, e)

-- the same where what is counted stands beside the count
counted : {V : Type 0} (goes : V → Policy → V → Type 0) (what : V → Sweep) (count : V → ℕ)
    → ((v u : V) (p : Policy) → goes v p u → (what u ≡ what v) × IsMore (changes_of (fate_of (what v) p)) (count v) (count u))
    → (v w : V) (ps : List Policy) → Visited goes v ps w → count v + length ps < 2 ^ 32 → count w ≡ count v + count_by (changes (what v)) ps
counted goes what count step v w [] e few = let c : count w ≡ count v = ap (λ x. count x) (sym e) in omega (arith, c)
counted goes what count step v w (p ∷ ps) k few =
    let s = step v k.0 p k.1.0 in
    let one : count k.0 ≡ count v + changes_of (fate_of (what v) p) = s.1 (omega (arith, few)) in
    let small : changes_of (fate_of (what v) p) ≤ 1 = one_change (fate_of (what v) p) in
    let rest : count w ≡ count k.0 + count_by (changes (what k.0)) ps = counted goes what count step k.0 w ps k.1.1 (omega (arith, few, one, small)) in
    let same : count_by (changes (what k.0)) ps ≡ count_by (changes (what v)) ps = ap (λ (x : Sweep). count_by (changes x) ps) s.0 in
    let more : count_by (changes (what v)) (p ∷ ps) ≡ cond {A = ℕ} (changes (what v) p) 1 0 + count_by (changes (what v)) ps = sum_by-cons (λ q. cond (changes (what v) q) 1 0) p ps in
    let this = change_counts (what v) p in
    omega (arith, one, rest, same, more, this)
  where
    one_change : (fate : Fate) → changes_of fate ≤ 1
    one_change Stays = omega arith
    one_change Warned = omega arith
    one_change Gone = omega arith

pub counted_all : {V : Type 0} (goes : V → Policy → V → Type 0) (what : V → Sweep) (count : V → ℕ)
    → ((v u : V) (p : Policy) → goes v p u → (what u ≡ what v) × IsMore (changes_of (fate_of (what v) p)) (count v) (count u))
    → (v w : V) (ps : List Policy) → count v ≡ 0 → length ps < 2 ^ 32 → Visited goes v ps w → count w ≡ count_by (changes (what v)) ps
counted_all goes what count step v w ps none few k =
    let e : count w ≡ count v + count_by (changes (what v)) ps = counted goes what count step v w ps k (omega (arith, none, few)) in
    omega (arith, none, e)

-- ---- lists

filter_by : (b : Bool) (p : Policy) (before rest : List Policy) → (before ++ cond b (p ∷ []) []) ++ rest ≡ before ++ cond b (p ∷ rest) rest
filter_by true p before rest = append_assoc before (p ∷ []) rest
filter_by false p before rest = ap (λ (l : List Policy). l ++ rest) (records_nil before)

pub admitted : {V : Type 0} {W : Type 0} (goes : V → Policy → V → Type 0) (wanted : V → W) (found : V → List Policy) (test : W → Policy → Bool)
    → ((v u : V) (p : Policy) → goes v p u → (wanted u ≡ wanted v) × (found u ≡ found v ++ filter (test (wanted v)) (p ∷ [])))
    → (v w : V) (ps : List Policy) → Visited goes v ps w → found w ≡ found v ++ filter (test (wanted v)) ps
admitted goes wanted found test step v w [] e = ap (λ x. found x) (sym e) ∙ sym (records_nil (found v))
admitted goes wanted found test step v w (p ∷ ps) k =
    let s = step v k.0 p k.1.0 in
    let rest : found w ≡ found k.0 ++ filter (test (wanted k.0)) ps = admitted goes wanted found test step k.0 w ps k.1.1 in
    rest ∙ (ap (λ x. found k.0 ++ filter (test x) ps) s.0 ∙ (ap (λ (l : List Policy). l ++ filter (test (wanted v)) ps) s.1
    ∙ filter_by (test (wanted v) p) p (found v) (filter (test (wanted v)) ps)))

events_nil : (es : List Event) → es ++ [] ≡ es
events_nil [] = refl
events_nil (e ∷ es) = ap (λ (l : List Event). e ∷ l) (events_nil es)

event_by : (time : ℕ) (o : Option Event) (p : Policy) (ps : List Policy) (before : List Event) → policy_event time p ≡ o
    → (before ++ filter_map (policy_event time) (p ∷ [])) ++ filter_map (policy_event time) ps ≡ before ++ filter_map (policy_event time) (p ∷ ps)
event_by time o p ps before e = append_assoc before (filter_map (policy_event time) (p ∷ [])) (filter_map (policy_event time) ps) ∙ ap (λ (l : List Event). before ++ l) (one_more time o p ps e)
  where
    one_more : (time : ℕ) (o : Option Event) (p : Policy) (ps : List Policy) → policy_event time p ≡ o
        → filter_map (policy_event time) (p ∷ []) ++ filter_map (policy_event time) ps ≡ filter_map (policy_event time) (p ∷ ps)
    one_more time None p ps e = rw e refl
    one_more time (Some x) p ps e = rw e refl

pub reported : {V : Type 0} (goes : V → Policy → V → Type 0) (time : V → ℕ) (events : V → List Event)
    → ((v u : V) (p : Policy) → goes v p u → (time u ≡ time v) × (events u ≡ events v ++ filter_map (policy_event (time v)) (p ∷ [])))
    → (v w : V) (ps : List Policy) → Visited goes v ps w → events w ≡ events v ++ filter_map (policy_event (time v)) ps
reported goes time events step v w [] e = ap (λ x. events x) (sym e) ∙ sym (events_nil (events v))
reported goes time events step v w (p ∷ ps) k =
    let s = step v k.0 p k.1.0 in
    let rest : events w ≡ events k.0 ++ filter_map (policy_event (time k.0)) ps = reported goes time events step k.0 w ps k.1.1 in
    rest ∙ (ap (λ (n : ℕ). events k.0 ++ filter_map (policy_event n) ps) s.0 ∙ (ap (λ (l : List Event). l ++ filter_map (policy_event (time v)) ps) s.1
    ∙ event_by (time v) (policy_event (time v) p) p ps (events v) refl))

-- ---- events

events_by : (o : Option Event) (time : ℕ) (p : Policy) (ps : List Policy) → policy_event time p ≡ o → length (filter_map (policy_event time) (p ∷ ps)) ≡ cond {A = ℕ} (is_some o) 1 0 + length (filter_map (policy_event time) ps)
events_by None time p ps e = rw e (omega arith)
events_by (Some x) time p ps e = rw e (omega arith)

pub events_counted : (time : ℕ) (ps : List Policy) → count_by (changes (Later time)) ps ≡ length (filter_map (policy_event time) ps)
events_counted time [] = refl
events_counted time (p ∷ ps) =
    let rest : count_by (changes (Later time)) ps ≡ length (filter_map (policy_event time) ps) = events_counted time ps in
    let more : count_by (changes (Later time)) (p ∷ ps) ≡ cond {A = ℕ} (is_some (policy_event time p)) 1 0 + count_by (changes (Later time)) ps = sum_by-cons (λ q. cond (changes (Later time) q) 1 0) p ps in
    let here = events_by (policy_event time p) time p ps refl in
    omega (arith, rest, more, here)

later_by : (l w : Bool) (e : ℕ × Policy) (rest es : List (ℕ × Policy)) (f : ℕ × Policy → ℕ × Policy) → f e ≡ (e.0, soft_if w e.1) → rest ≡ map f es
    → left_of (fate_by l w) e.0 e.1 ++ rest ≡ map f (cond (not l) (e ∷ es) es)
later_by true w e rest es f is r = r
later_by false true e rest es f is r = ap (λ (x : ℕ × Policy). x ∷ rest) (sym is) ∙ ap (λ (xs : List (ℕ × Policy)). f e ∷ xs) r
later_by false false e rest es f is r = ap (λ (x : ℕ × Policy). x ∷ rest) (sym is) ∙ ap (λ (xs : List (ℕ × Policy)). f e ∷ xs) r

later_entries : (now : ℕ) (es : List (ℕ × Policy)) → entries_swept (Later now) es ≡ entries_later now es
later_entries now [] = refl
later_entries now (e ∷ es) =
    later_by (policy_ends now e.1) (policy_warns now e.1) e (entries_swept (Later now) es) (entries_without (policy_ends now) es) (λ x. (x.0, policy_later now x.1)) refl (later_entries now es)

pub later_is : (a : PolicyArea) (words : List ℕ) (now : ℕ) (s : Shown) (es : List (ℕ × Policy)) (count : ℕ) → IsSwept a words (Later now) s es count → AreLater a words now s es
later_is a words now s es count k =
    subst (λ (xs : List (ℕ × Policy)). SpdStands a words (record s { policies = map (policy_later now) (without (policy_ends now) s.policies) }) xs) (later_entries now es) k.stands
