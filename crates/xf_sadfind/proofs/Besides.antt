-- The state that a new one can't stand beside.
use Rattle.std.proofs.Common.{◌≡◌, ◌≢◌, ℕ, Bool, true, false, not, ◌&&◌, ◌==◌, cond, List, [], ◌∷◌, Option, None, Some, filter, find, reverse, refl, ap, sym, ◌∙◌, subst, arith, rules}
use Rattle.std.proofs.lemmas.Bool.Decides.{nat_tests}
use Rattle.xf_types.specs.declared.state.Sa.{Sa}
use Rattle.xf_types.specs.declared.state.SaId.{SaId}
use Rattle.xf_types.specs.declared.state.SaSpec.{SaSpec}
use Rattle.xf_types.specs.PolicyList.{without}
use Rattle.xf_types.specs.StateList.{last_of, has_id, has_sid, id_of, is_larval_of, is_that, larval_replaced, latest_match}
use Rattle.xf_index.specs.Indexes.{records_in}
use Rattle.xf_index.specs.Finds.{slot_found, record_found}
use Rattle.xf_asked.specs.Fields.{sid_at}
use Rattle.xf_asked.proofs.FieldLaws.{sid_is}
use Rattle.xf_sadidx.specs.declared.area.StateArea.{StateArea}
use Rattle.xf_sadidx.specs.Layout.{record_place}
use Rattle.xf_sadidx.specs.Standing.{RecordsStand}
use Rattle.xf_sadidx.specs.Founds.{latest_in}
use Rattle.xf_sadidx.proofs.FoundLaws.{latest_record}
use Rattle.xf_sadidx.proofs.Reverses.{filter_reverse}
use Rattle.xf_sadfind.specs.Slots.{sid_in, IsThere}
use Rattle.xf_sadfind.specs.Replaced.{larval_in, names_beside, sid_found, in_the_way}
use Rattle.xf_sadfind.proofs.Readings.{latest_sid, latest_there}

-- ---- the larval state

pub larval_zero : (spec : SaSpec) (es : List (ℕ × Sa)) → spec.seq ≡ 0 → larval_in spec es ≡ None
larval_zero spec es e =
    let z : (spec.seq == 0) ≡ true = grind (arith, nat_tests) in
    ap (λ (b : Bool). cond b None (latest_in (is_larval_of spec) es)) z

pub larval_other : (spec : SaSpec) (es : List (ℕ × Sa)) → spec.seq ≢ 0 → larval_in spec es ≡ latest_in (is_larval_of spec) es
larval_other spec es n =
    let z : (spec.seq == 0) ≡ false = grind (arith, nat_tests) in
    ap (λ (b : Bool). cond b None (latest_in (is_larval_of spec) es)) z

pub larval_record : (spec : SaSpec) (es : List (ℕ × Sa)) → record_found (larval_in spec es) ≡ larval_replaced (records_in es) spec
larval_record spec es = either (spec.seq == 0)
  where
    either : (b : Bool) → record_found (cond b None (latest_in (is_larval_of spec) es)) ≡ cond b None (last_of (is_larval_of spec) (records_in es))
    either true = refl
    either false = latest_record (is_larval_of spec) es

larval_there : (a : StateArea) (image : List ℕ) (spec : SaSpec) (es : List (ℕ × Sa)) → RecordsStand a image es
    → IsThere a image (slot_found (larval_in spec es)) (record_found (larval_in spec es))
larval_there a image spec es h = either (spec.seq == 0)
  where
    either : (b : Bool) → IsThere a image (slot_found (cond b None (latest_in (is_larval_of spec) es))) (record_found (cond b None (latest_in (is_larval_of spec) es)))
    either true = search rules
    either false = latest_there a image (is_larval_of spec) es h

-- ---- beside it

-- by what the words tell of it
pub beside_none : (a : StateArea) (image : List ℕ) (id : SaId) (old : Option Sa) (es : List (ℕ × Sa)) → IsThere a image None old
    → slot_found (latest_in (has_id id) es) ≡ slot_found (latest_in (names_beside id old) es)
beside_none a image id None es h = refl
beside_none a image id (Some s) es h = absurd h

pub beside_some : (a : StateArea) (image : List ℕ) (id : SaId) (old : Option Sa) (slot sid : ℕ) (es : List (ℕ × Sa)) → IsThere a image (Some slot) old
    → sid ≡ sid_at image (record_place a slot)
    → slot_found (latest_in (λ s. has_id id s && not (has_sid sid s)) es) ≡ slot_found (latest_in (names_beside id old) es)
beside_some a image id None slot sid es h e = absurd h
beside_some a image id (Some old) slot sid es h e =
    ap (λ (n : ℕ). slot_found (latest_in (λ s. has_id id s && not (has_sid n s)) es)) (e ∙ sid_is image (record_place a slot) old h)

find_filter : (p q : Sa → Bool) (xs : List Sa) → find (λ x. p x && q x) xs ≡ find p (filter q xs)
find_filter p q [] = refl
find_filter p q (x ∷ xs) = step (q x) (find_filter p q xs)
  where
    with_true : (b : Bool) → (b && true) ≡ b
    with_true true = refl
    with_true false = refl

    with_false : (b : Bool) → (b && false) ≡ false
    with_false true = refl
    with_false false = refl

    step : (b : Bool) → find (λ x. p x && q x) xs ≡ find p (filter q xs)
        → cond (p x && b) (Some x) (find (λ x. p x && q x) xs) ≡ find p (cond b (x ∷ filter q xs) (filter q xs))
    step true k = ap (λ (c : Bool). cond c (Some x) (find (λ x. p x && q x) xs)) (with_true (p x)) ∙ ap (λ o. cond (p x) (Some x) o) k
    step false k = ap (λ (c : Bool). cond c (Some x) (find (λ x. p x && q x) xs)) (with_false (p x)) ∙ k

filter_all : (xs : List Sa) → filter (λ x. true) xs ≡ xs
filter_all [] = refl
filter_all (x ∷ xs) = ap (λ ys. x ∷ ys) (filter_all xs)

-- in the list
beside_is : (id : SaId) (old : Option Sa) (states : List Sa) → last_of (names_beside id old) states ≡ latest_match (without (is_that old) states) id
beside_is id None states = ap (λ xs. last_of (has_id id) xs) (sym (filter_all states))
beside_is id (Some old) states =
    find_filter (has_id id) (λ s. not (has_sid old.sid s)) (reverse states)
    ∙ ap (find (has_id id)) (filter_reverse (λ s. not (has_sid old.sid s)) states)

-- so the state id in the slot that was found is that of the state in the way
pub way_is : (a : StateArea) (image : List ℕ) (spec : SaSpec) (gone slot : Option ℕ) (es : List (ℕ × Sa)) → RecordsStand a image es
    → gone ≡ slot_found (larval_in spec es)
    → ((old : Option Sa) → IsThere a image gone old → slot ≡ slot_found (latest_in (names_beside (id_of spec) old) es))
    → sid_in a image slot ≡ sid_found (in_the_way (records_in es) spec)
way_is a image spec gone slot es records is found =
    let id : SaId = id_of spec in
    let old : Option Sa = record_found (larval_in spec es) in
    let there : IsThere a image gone old = subst (λ (o : Option ℕ). IsThere a image o old) (sym is) (larval_there a image spec es records) in
    ap (sid_in a image) (found old there) ∙ latest_sid a image (names_beside id old) es records
    ∙ ap sid_found (latest_record (names_beside id old) es ∙ beside_is id old (records_in es))
    ∙ ap (λ o. sid_found (latest_match (without (is_that o) (records_in es)) id)) (larval_record spec es)
