-- The best of states, one after another, the latest first.
use Rattle.std.proofs.Common.{◌≡◌, ◌≢◌, ℕ, ◌<◌, ◌≤◌, Bool, true, false, not, ◌==◌, cond, nat_lt, List, [], ◌∷◌, ◌++◌, Option, None, Some, filter, find, max, reverse, refl, ap, sym, ◌∙◌, arith}
use Rattle.std.specs.List.{list_any}
use Rattle.std.proofs.lemmas.Bool.Decides.{nat_tests}
use Rattle.std.proofs.lemmas.List.{reverse-append}
use Rattle.xf_types.specs.declared.state.Sa.{Sa}
use Rattle.xf_types.specs.Candidates.{preferred, latest_added, best_state}
use Rattle.xf_sadidx.specs.Bests.{beats_by, beats}
use Rattle.xf_sadidx.proofs.Reverses.{filter_reverse, any_reverse}

-- the best of a list with one that was met before
abbrev pub run : Sa → List Sa → Sa
run b [] = b
run b (s ∷ states) = run (cond (beats s b) s b) states

abbrev pub run_from : Option Sa → List Sa → Option Sa
run_from None [] = None
run_from None (s ∷ states) = Some (run s states)
run_from (Some b) states = Some (run b states)

-- the first with the greatest added time
abbrev pick : List Sa → Option Sa
pick states = find (λ s. s.added == latest_added states) states

-- of the preferred ones, the latest first
abbrev first_best : List Sa → Option Sa
first_best states = pick (preferred states)

max_drop : (b s r : ℕ) → s ≤ b → max b (max s r) ≡ max b r
max_drop b s r h = grind (arith, nat_tests)

max_skip : (b s r : ℕ) → b < s → max b (max s r) ≡ max s r
max_skip b s r h = grind (arith, nat_tests)

max_left : (a b : ℕ) → a ≤ max a b
max_left a b = grind (arith, nat_tests)

drop_by : (b s t : ℕ) (x y : Sa) (rest : Option Sa) (p q : Bool) → (b == t) ≡ p → (s == t) ≡ q → s ≤ b → b ≤ t
    → cond p (Some x) (cond q (Some y) rest) ≡ cond p (Some x) rest
drop_by b s t x y rest true q e f h k = refl
drop_by b s t x y rest false false e f h k = refl
drop_by b s t x y rest false true e f h k = absurd (let g : s ≡ t = grind (arith, nat_tests) in let n : b ≢ t = grind (arith, nat_tests) in n (omega arith))

skip_by : (b s t : ℕ) (x : Sa) (rest : Option Sa) (p : Bool) → (b == t) ≡ p → b < s → s ≤ t → cond p (Some x) rest ≡ rest
skip_by b s t x rest true e h k = absurd (let g : b ≡ t = grind (arith, nat_tests) in let n : b ≢ t = (λ q. omega arith) in n g)
skip_by b s t x rest false e h k = refl

pick_drop : (b s : Sa) (xs : List Sa) → s.added ≤ b.added → pick (b ∷ (s ∷ xs)) ≡ pick (b ∷ xs)
pick_drop b s xs h =
    let r : ℕ = latest_added xs in
    let e : max b.added (max s.added r) ≡ max b.added r = max_drop b.added s.added r h in
    let t : ℕ = max b.added r in
    ap (λ (t : ℕ). cond (b.added == t) (Some b) (cond (s.added == t) (Some s) (find (λ z. z.added == t) xs))) e
    ∙ drop_by b.added s.added t b s (find (λ z. z.added == t) xs) (b.added == t) (s.added == t) refl refl h (max_left b.added r)

pick_skip : (b s : Sa) (xs : List Sa) → b.added < s.added → pick (b ∷ (s ∷ xs)) ≡ pick (s ∷ xs)
pick_skip b s xs h =
    let r : ℕ = latest_added xs in
    let e : max b.added (max s.added r) ≡ max s.added r = max_skip b.added s.added r h in
    let t : ℕ = max s.added r in
    ap (λ (t : ℕ). cond (b.added == t) (Some b) (cond (s.added == t) (Some s) (find (λ z. z.added == t) xs))) e
    ∙ skip_by b.added s.added t b (cond (s.added == t) (Some s) (find (λ z. z.added == t) xs)) (b.added == t) refl h (max_left s.added r)

pick_two : (b s : Sa) (xs : List Sa) (k : Bool) → nat_lt b.added s.added ≡ k → pick (b ∷ (s ∷ xs)) ≡ pick (cond k s b ∷ xs)
pick_two b s xs true e = pick_skip b s xs (grind (arith, nat_tests))
pick_two b s xs false e = pick_drop b s xs (grind (arith, nat_tests))

-- of two in front the better one decides
best_two : (b s : Sa) (xs : List Sa) (db ds a : Bool) → b.dying ≡ db → s.dying ≡ ds → list_any (λ s. not s.dying) xs ≡ a
    → first_best (b ∷ (s ∷ xs)) ≡ first_best (cond (beats_by ds db (nat_lt b.added s.added)) s b ∷ xs)
best_two b s xs false false a e f g =
    let alive : List Sa = filter (λ s. not s.dying) xs in
    let p : preferred (b ∷ (s ∷ xs)) ≡ b ∷ (s ∷ alive) = cc in
    let q : (k : Bool) → preferred (cond k s b ∷ xs) ≡ cond k s b ∷ alive = λ k. alive_either b s xs k e f in
    ap pick p ∙ (pick_two b s alive (nat_lt b.added s.added) refl ∙ ap pick (sym (q (nat_lt b.added s.added))))
  where
    alive_either : (b s : Sa) (xs : List Sa) (k : Bool) → b.dying ≡ false → s.dying ≡ false → preferred (cond k s b ∷ xs) ≡ cond k s b ∷ filter (λ s. not s.dying) xs
    alive_either b s xs true e f = cc
    alive_either b s xs false e f = cc
best_two b s xs false true a e f g =
    let p : preferred (b ∷ (s ∷ xs)) ≡ preferred (b ∷ xs) = cc in
    ap pick p
best_two b s xs true false a e f g =
    let p : preferred (b ∷ (s ∷ xs)) ≡ preferred (s ∷ xs) = cc in
    ap pick p
best_two b s xs true true true e f g =
    let alive : List Sa = filter (λ s. not s.dying) xs in
    let p : preferred (b ∷ (s ∷ xs)) ≡ alive = cc in
    let q : (k : Bool) → preferred (cond k s b ∷ xs) ≡ alive = λ k. dead_either b s xs k e f g in
    ap pick (p ∙ sym (q (nat_lt b.added s.added)))
  where
    dead_either : (b s : Sa) (xs : List Sa) (k : Bool) → b.dying ≡ true → s.dying ≡ true → list_any (λ s. not s.dying) xs ≡ true → preferred (cond k s b ∷ xs) ≡ filter (λ s. not s.dying) xs
    dead_either b s xs true e f g = cc
    dead_either b s xs false e f g = cc
best_two b s xs true true false e f g =
    let p : preferred (b ∷ (s ∷ xs)) ≡ b ∷ (s ∷ xs) = cc in
    let q : (k : Bool) → preferred (cond k s b ∷ xs) ≡ cond k s b ∷ xs = λ k. all_either b s xs k e f g in
    ap pick p ∙ (pick_two b s xs (nat_lt b.added s.added) refl ∙ ap pick (sym (q (nat_lt b.added s.added))))
  where
    all_either : (b s : Sa) (xs : List Sa) (k : Bool) → b.dying ≡ true → s.dying ≡ true → list_any (λ s. not s.dying) xs ≡ false → preferred (cond k s b ∷ xs) ≡ cond k s b ∷ xs
    all_either b s xs true e f g = cc
    all_either b s xs false e f g = cc

best_one : (b : Sa) (d : Bool) → b.dying ≡ d → first_best (b ∷ []) ≡ Some b
best_one b true e =
    let p : preferred (b ∷ []) ≡ b ∷ [] = cc in
    ap pick p ∙ own b
  where
    same : (n : ℕ) → (n == max n 0) ≡ true
    same n = grind (arith, nat_tests)

    own : (b : Sa) → pick (b ∷ []) ≡ Some b
    own b = ap (λ (k : Bool). cond k (Some b) None) (same b.added)
best_one b false e =
    let p : preferred (b ∷ []) ≡ b ∷ [] = cc in
    ap pick p ∙ own b
  where
    same : (n : ℕ) → (n == max n 0) ≡ true
    same n = grind (arith, nat_tests)

    own : (b : Sa) → pick (b ∷ []) ≡ Some b
    own b = ap (λ (k : Bool). cond k (Some b) None) (same b.added)

run_is : (b : Sa) (xs : List Sa) → first_best (b ∷ xs) ≡ Some (run b xs)
run_is b [] = best_one b b.dying refl
run_is b (s ∷ xs) =
    best_two b s xs b.dying s.dying (list_any (λ s. not s.dying) xs) refl refl refl ∙ run_is (cond (beats s b) s b) xs

run_from_is : (xs : List Sa) → run_from None xs ≡ first_best xs
run_from_is [] = refl
run_from_is (s ∷ xs) = sym (run_is s xs)

-- the same of the states in the order of adding
added_append : (xs ys : List Sa) → latest_added (xs ++ ys) ≡ max (latest_added xs) (latest_added ys)
added_append [] ys = none (latest_added ys)
  where
    none : (n : ℕ) → n ≡ max 0 n
    none n = grind (arith, nat_tests)
added_append (x ∷ xs) ys = ap (max x.added) (added_append xs ys) ∙ three x.added (latest_added xs) (latest_added ys)
  where
    three : (a b c : ℕ) → max a (max b c) ≡ max (max a b) c
    three a b c = grind (arith, nat_tests)

added_reverse : (xs : List Sa) → latest_added (reverse xs) ≡ latest_added xs
added_reverse [] = refl
added_reverse (x ∷ xs) =
    ap latest_added (reverse-append (x ∷ []) xs) ∙ added_append (reverse xs) (x ∷ [])
    ∙ ap (λ n. max n (max x.added 0)) (added_reverse xs) ∙ turned (latest_added xs) x.added
  where
    turned : (a b : ℕ) → max a (max b 0) ≡ max b a
    turned a b = grind (arith, nat_tests)

preferred_reverse : (xs : List Sa) → preferred (reverse xs) ≡ reverse (preferred xs)
preferred_reverse xs =
    ap (λ b. cond b (filter (λ s. not s.dying) (reverse xs)) (reverse xs)) (any_reverse (λ s. not s.dying) xs)
    ∙ ap (λ ys. cond (list_any (λ s. not s.dying) xs) ys (reverse xs)) (filter_reverse (λ s. not s.dying) xs)
    ∙ either (list_any (λ s. not s.dying) xs)
  where
    either : (b : Bool) → cond b (reverse (filter (λ s. not s.dying) xs)) (reverse xs) ≡ reverse (cond b (filter (λ s. not s.dying) xs) xs)
    either true = refl
    either false = refl

pub run_best : (states : List Sa) → run_from None (reverse states) ≡ best_state states
run_best states =
    run_from_is (reverse states) ∙ ap pick (preferred_reverse states)
    ∙ ap (λ n. find (λ s. s.added == n) (reverse (preferred states))) (added_reverse (preferred states))
