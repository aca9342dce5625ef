-- The latest match, and the best state for a template.
use Rattle.std.proofs.Common.{arith, ℕ, ◌≡◌, ◌-◌, ◌<◌, ◌≤◌, max, Bool, true, false, not, ◌||◌, ◌==◌, List, [], ◌∷◌, ◌++◌, length, get_or, filter, reverse, refl, ap, sym, ◌∙◌, subst, cond, None, Some, All, append_assoc, eqb-true, inl, inr}
use Rattle.std.proofs.lemmas.Bool.{not-true, not-false, both_ways, cases_Bool, cases_lt, eq-eqb, eqb-false, or_left, or_right, cond-true, cond-false}
use Rattle.std.proofs.lemmas.List.{reverse-append, reverse-reverse, get_or-reverse, length-reverse}
use Rattle.std.proofs.lemmas.List.Elements.{All-nil, All-cons, All-head, All-tail, All-same, All-weaker, filter_passes}
use Rattle.std.proofs.lemmas.List.Folds.{list_any_none}
use Rattle.std.specs.List.{list_any}
use Rattle.xf_types.specs.declared.state.Sa.{Sa}
use Rattle.xf_types.specs.PolicyList.{without}
use Rattle.xf_types.specs.StateList.{last_of}
use Rattle.xf_types.specs.Candidates.{preferred, latest_added, best_state}
use Rattle.xf_laws.specs.LookupLaws.{IsLatest, IsBest}
use Rattle.xf_laws.proofs.ListLemmas.{found_in, find-none, none-passes}

-- what holds of each element holds of each of the list turned round
All-reverse : (P : Sa → Type 0) (xs : List Sa) → All P xs → All P (reverse xs)
All-reverse P xs all k d within =
    let less : k < length xs = omega (arith, length-reverse xs) in
    subst P (sym (get_or-reverse xs k d less)) (all (length xs - 1 - k) d (omega arith))

-- the place of what is found last
pub last-found : (test : Sa → Bool) (xs : List Sa) (x : Sa) → last_of test xs ≡ Some x → IsLatest test xs x
last-found test xs x e =
    let h = found_in test (reverse xs) x e in
    record {
      before = reverse h.after;
      after = reverse h.before;
      place =
          sym (reverse-reverse xs) ∙ ap reverse h.place ∙ reverse-append h.before (x ∷ h.after)
          ∙ ap (λ ys. ys ++ reverse h.before) (reverse-append (x ∷ []) h.after)
          ∙ append_assoc (reverse h.after) (x ∷ []) (reverse h.before);
      passes = h.passes;
      none_after = All-reverse (λ y. test y ≡ false) h.before h.none_before;
    }

-- where nothing is found from the end, each element fails
pub last-none : (test : Sa → Bool) (xs : List Sa) → last_of test xs ≡ None → All (λ x. test x ≡ false) xs
last-none test xs e =
    All-same (λ x. test x ≡ false) xs (reverse (reverse xs)) (sym (reverse-reverse xs))
    (All-reverse (λ x. test x ≡ false) (reverse xs) (find-none test (reverse xs) e))

-- an element between others, and those after it
All-middle : (P : Sa → Type 0) (before after : List Sa) (x : Sa) → All P (before ++ x ∷ after) → P x × All P after
All-middle P [] after x all = (All-head P x after all, All-tail P x after all)
All-middle P (y ∷ before) after x all = All-middle P before after x (All-tail P y (before ++ x ∷ after) all)

-- the place in the list of what stands in a part of it
record PlaceIn (test : Sa → Bool) (xs : List Sa) (x : Sa) (rest : List Sa) : Type 0 where
  before : List Sa
  after : List Sa
  place : xs ≡ before ++ x ∷ after
  left : filter test after ≡ rest

-- one more stands before it
behind : (test : Sa → Bool) (y : Sa) (ys rest : List Sa) (x : Sa) → PlaceIn test ys x rest → PlaceIn test (y ∷ ys) x rest
behind test y ys rest x h =
    record { before = y ∷ h.before; after = h.after; place = ap (λ zs. y ∷ zs) h.place; left = h.left }

-- the first of the list passes: it is the one, or the one stands behind it
at-head : (test : Sa → Bool) (y : Sa) (ys before rest : List Sa) (x : Sa)
    → ((others : List Sa) → filter test ys ≡ others ++ x ∷ rest → PlaceIn test ys x rest)
    → y ∷ filter test ys ≡ before ++ x ∷ rest → PlaceIn test (y ∷ ys) x rest
at-head test y ys [] rest x later e =
    let same : y ≡ x = cc in
    let left : filter test ys ≡ rest = cc in
    record { before = []; after = ys; place = ap (λ z. z ∷ ys) same; left = left }
at-head test y ys (b ∷ before) rest x later e =
    (let tail : filter test ys ≡ before ++ x ∷ rest = cc in behind test y ys rest x (later before tail))

-- what stands in what is left stands in the list
place_in : (test : Sa → Bool) (xs before rest : List Sa) (x : Sa) → filter test xs ≡ before ++ x ∷ rest → PlaceIn test xs x rest
place_in test [] [] rest x = λ e. absurd cc
place_in test [] (b ∷ before) rest x = λ e. absurd cc
place_in test (y ∷ ys) before rest x =
    elim (test y) as (λ b. cond b (y ∷ filter test ys) (filter test ys) ≡ before ++ x ∷ rest → PlaceIn test (y ∷ ys) x rest) [
      | true ↦ at-head test y ys before rest x (λ others. place_in test ys others rest x)
      | false ↦ λ e. behind test y ys rest x (place_in test ys before rest x e)
    ]

-- what holds of each that is left holds of each that passes
All-passing : (P : Sa → Type 0) (test : Sa → Bool) (xs : List Sa) → All P (filter test xs) → All (λ y. test y ≡ true → P y) xs
All-passing P test [] = λ all. All-nil (λ y. test y ≡ true → P y)
All-passing P test (x ∷ xs) =
    elim (test x)
    as (λ b. test x ≡ b → All P (cond b (x ∷ filter test xs) (filter test xs)) → All (λ y. test y ≡ true → P y) (x ∷ xs)) [
      | true ↦ λ is all.
          All-cons (λ y. test y ≡ true → P y) x xs (λ passes. All-head P x (filter test xs) all)
          (All-passing P test xs (All-tail P x (filter test xs) all))
      | false ↦ λ is all.
          All-cons (λ y. test y ≡ true → P y) x xs (λ passes. absurd (both_ways (test x) is passes)) (All-passing P test xs all)
    ] refl

-- none was added after the latest added time
added-le : (xs : List Sa) → All (λ y. y.added ≤ latest_added xs) xs
added-le [] = All-nil (λ y. y.added ≤ 0)
added-le (x ∷ xs) =
    All-cons (λ y. y.added ≤ max x.added (latest_added xs)) x xs (omega arith)
    (All-weaker (λ y. y.added ≤ latest_added xs) (λ y. y.added ≤ max x.added (latest_added xs)) (λ y le. omega arith) xs (added-le xs))

-- one was added then, where there is one that was added at all
added-at-latest : (xs : List Sa) → 0 < latest_added xs → list_any (λ y. y.added == latest_added xs) xs ≡ true
added-at-latest [] h = absurd (omega arith)
added-at-latest (x ∷ xs) h =
    let latest : ℕ = max x.added (latest_added xs) in
    elim (cases_lt x.added (latest_added xs)) [
      | inl less ↦
          (let e : latest ≡ latest_added xs = omega arith in
          or_right (x.added == latest) (list_any (λ y. y.added == latest) xs)
          (ap (λ (n : ℕ). list_any (λ y. y.added == n) xs) e ∙ added-at-latest xs (omega arith)))
      | inr ge ↦ or_left (x.added == latest) (list_any (λ y. y.added == latest) xs) (eq-eqb x.added latest (omega arith))
    ]

-- one was added at the latest added time
added-then : (x : Sa) (xs : List Sa) → list_any (λ y. y.added == latest_added (x ∷ xs)) (x ∷ xs) ≡ true
added-then x xs =
    let latest : ℕ = max x.added (latest_added xs) in
    elim (cases_lt 0 latest) [
      | inl some ↦ added-at-latest (x ∷ xs) some
      | inr none ↦ or_left (x.added == latest) (list_any (λ y. y.added == latest) xs) (eq-eqb x.added latest (omega arith))
    ]

-- the latest of those that are preferred: of a list of which it is the latest of the greatest added time
record IsNewest (xs : List Sa) (x : Sa) : Type 0 where
  before : List Sa
  after : List Sa
  place : xs ≡ before ++ x ∷ after
  newest : All (λ y. y.added ≤ x.added) xs
  last : All (λ y. y.added < x.added) after

-- what is found last among those is the newest
newest-is : (xs : List Sa) (x : Sa) → last_of (λ y. y.added == latest_added xs) xs ≡ Some x → IsNewest xs x
newest-is xs x e =
    let latest : ℕ = latest_added xs in
    let h = last-found (λ y. y.added == latest) xs x e in
    let at : x.added ≡ latest = eqb-true x.added latest h.passes in
    let bound : All (λ y. y.added ≤ latest) xs = added-le xs in
    let after = (All-middle (λ y. y.added ≤ latest) h.before h.after x (subst (All (λ y. y.added ≤ latest)) h.place bound)).1 in
    record {
      before = h.before;
      after = h.after;
      place = h.place;
      newest = (λ k d within. (let le = bound k d within in omega arith));
      last =
          (λ k d within.
          let y : Sa = get_or h.after k d in
          let le : y.added ≤ latest = after k d within in
          let other : (y.added ≡ latest) → ⊥ = eqb-false y.added latest (h.none_after k d within) in
          omega arith);
    }

-- where some aren't dying the best is one of those
living-best : (candidates : List Sa) (x : Sa) → IsNewest (without (λ s. s.dying) candidates) x → IsBest candidates x
living-best candidates x h =
    let alive : Sa → Bool = λ s. not s.dying in
    let left : List Sa = filter alive candidates in
    let p = place_in alive candidates h.before h.after x h.place in
    let lives : x.dying ≡ false =
    not-true x.dying
    (All-middle (λ y. alive y ≡ true) h.before h.after x
    (subst (All (λ y. alive y ≡ true)) h.place (filter_passes alive candidates))).0 in
    let like : (y : Sa) → y.dying ≡ x.dying → alive y ≡ true = λ y e. ap not (e ∙ lives) in
    record {
      before = p.before;
      after = p.after;
      place = p.place;
      dying = λ d. absurd (both_ways x.dying lives d);
      newest =
          (λ k d within e. All-passing (λ y. y.added ≤ x.added) alive candidates h.newest k d within (like (get_or candidates k d) e));
      last =
          (λ k d within e.
          All-passing (λ y. y.added < x.added) alive p.after (subst (All (λ y. y.added < x.added)) (sym p.left) h.last) k d within
          (like (get_or p.after k d) e));
    }

-- where all are dying it is the newest of them
dying-best : (candidates : List Sa) (x : Sa) → list_any (λ s. not s.dying) candidates ≡ false → IsNewest candidates x
    → IsBest candidates x
dying-best candidates x none h =
    record {
      before = h.before;
      after = h.after;
      place = h.place;
      dying = λ d k e within. not-false (get_or candidates k e).dying (none-passes (λ s. not s.dying) candidates none k e within);
      newest = λ k d within e. h.newest k d within;
      last = λ k d within e. h.last k d within;
    }

-- the best state is the best
pub best-is : (candidates : List Sa) (x : Sa) → best_state candidates ≡ Some x → IsBest candidates x
best-is candidates x e =
    let some : Bool = list_any (λ s. not s.dying) candidates in
    let alive : List Sa = without (λ s. s.dying) candidates in
    let is : IsNewest (preferred candidates) x = newest-is (preferred candidates) x e in
    elim (cases_Bool some) [
      | inl lives ↦ living-best candidates x (subst (λ (xs : List Sa). IsNewest xs x) (cond-true some alive candidates lives) is)
      | inr none ↦ dying-best candidates x none (subst (λ (xs : List Sa). IsNewest xs x) (cond-false some alive candidates none) is)
    ]

-- where there is none there are no candidates
none-newest : (xs : List Sa) → last_of (λ y. y.added == latest_added xs) xs ≡ None → xs ≡ []
none-newest [] e = refl
none-newest (x ∷ xs) e =
    let test : Sa → Bool = λ y. y.added == latest_added (x ∷ xs) in
    absurd (both_ways (list_any test (x ∷ xs)) (list_any_none test (x ∷ xs) (last-none test (x ∷ xs) e)) (added-then x xs))

-- where none is left none passes
none-left : (test : Sa → Bool) (xs : List Sa) → filter test xs ≡ [] → list_any test xs ≡ false
none-left test [] = λ e. refl
none-left test (x ∷ xs) =
    elim (test x) as (λ b. cond b (x ∷ filter test xs) (filter test xs) ≡ [] → (b || list_any test xs) ≡ false) [
      | true ↦ λ e. absurd cc
      | false ↦ λ e. none-left test xs e
    ]

-- where there is no best state there are no candidates
pub no-best : (candidates : List Sa) → best_state candidates ≡ None → candidates ≡ []
no-best candidates e =
    let some : Bool = list_any (λ s. not s.dying) candidates in
    let alive : List Sa = without (λ s. s.dying) candidates in
    let nil : preferred candidates ≡ [] = none-newest (preferred candidates) e in
    elim (cases_Bool some) [
      | inl lives ↦
          absurd (both_ways some (none-left (λ s. not s.dying) candidates (sym (cond-true some alive candidates lives) ∙ nil)) lives)
      | inr none ↦ sym (cond-false some alive candidates none) ∙ nil
    ]
