-- The threads of a phase: how a part of one worker adds to them, how many lines they have, and what holds of each line.
use Rattle.std.proofs.Common.{◌≡◌, ℕ, zero, suc, ◌+◌, ◌%◌, ◌<◌, ◌≤◌, true, false, cond, eqb, List, [], ◌∷◌, ◌++◌, length, map, sum, get_or, inl, inr, refl, ap, sym, ◌∙◌, arith}
use Rattle.std.specs.List.{All, filter, flat_map, sum_by}
use Rattle.std.proofs.lemmas.Bool.{eq-eqb, ne_eqb, cases_eq}
use Rattle.std.proofs.lemmas.List.{append-nil, map-append}
use Rattle.std.proofs.lemmas.List.Elements.{filter-append, All-filter, All-map}
use Rattle.std.proofs.lemmas.List.Sums.{sum_by-cons}
use Rattle.std.proofs.lemmas.Nat.{mod_below}
use Rattle.xf_types.specs.Batch.{Line, WorkerLine, calls_of_thread, threads_of}
use Rattle.xf_types.specs.Counters.{upwards}
use Rattle.xf_batch.specs.Generated.{below, jobs_in, numbered, worker_line, part}
use Rattle.xf_batch.proofs.MakingLines.{flat_map-below-more}

-- ---- a part of one worker

-- lines of a worker
abbrev pub of_worker : ℕ → List Line → List WorkerLine
of_worker w ls = map (λ l. record { worker = w; line = l }) ls

-- are all the lines of a thread, or none are
whole : (n t w : ℕ) (ls : List Line) → (w % n ≡ t) → calls_of_thread n (of_worker w ls) t ≡ ls
whole n t w [] is = refl
whole n t w (l ∷ ls) is =
    let first : WorkerLine = record { worker = w; line = l } in
    let rest = filter (λ (x : WorkerLine). eqb (x.worker % n) t) (of_worker w ls) in
    ap (λ b. map (λ (x : WorkerLine). x.line) (cond b (first ∷ rest) rest)) (eq-eqb (w % n) t is) ∙ ap (λ xs. l ∷ xs) (whole n t w ls is)

none : (n t w : ℕ) (ls : List Line) → (w % n ≡ t → ⊥) → calls_of_thread n (of_worker w ls) t ≡ []
none n t w [] isnt = refl
none n t w (l ∷ ls) isnt =
    let first : WorkerLine = record { worker = w; line = l } in
    let rest = filter (λ (x : WorkerLine). eqb (x.worker % n) t) (of_worker w ls) in
    ap (λ b. map (λ (x : WorkerLine). x.line) (cond b (first ∷ rest) rest)) (ne_eqb (w % n) t isnt) ∙ none n t w ls isnt

thread-append : (n t : ℕ) (xs ys : List WorkerLine)
    → calls_of_thread n (xs ++ ys) t ≡ calls_of_thread n xs t ++ calls_of_thread n ys t
thread-append n t xs ys =
    ap (map (λ (x : WorkerLine). x.line)) (filter-append (λ x. eqb (x.worker % n) t) xs ys)
    ∙ map-append (λ (x : WorkerLine). x.line) (filter (λ x. eqb (x.worker % n) t) xs) (filter (λ x. eqb (x.worker % n) t) ys)

-- the part of a worker of this thread
thread-own : (n t w : ℕ) (xs : List WorkerLine) (ls : List Line) → (w % n ≡ t)
    → calls_of_thread n (xs ++ of_worker w ls) t ≡ calls_of_thread n xs t ++ ls
thread-own n t w xs ls is = thread-append n t xs (of_worker w ls) ∙ ap (λ rest. calls_of_thread n xs t ++ rest) (whole n t w ls is)

-- the part of another worker
thread-other : (n t w : ℕ) (xs : List WorkerLine) (ls : List Line) → (w % n ≡ t → ⊥)
    → calls_of_thread n (xs ++ of_worker w ls) t ≡ calls_of_thread n xs t
thread-other n t w xs ls isnt =
    thread-append n t xs (of_worker w ls) ∙ ap (λ rest. calls_of_thread n xs t ++ rest) (none n t w ls isnt)
    ∙ append-nil (calls_of_thread n xs t)

-- ---- how many lines the threads have: each line is of one thread

-- 1 for the thread with this number
abbrev one_at : ℕ → ℕ → ℕ
one_at k t = cond (eqb k t) 1 0

sum_by-add : (f g : ℕ → ℕ) (ts : List ℕ) → sum_by (λ t. f t + g t) ts ≡ sum_by f ts + sum_by g ts
sum_by-add f g [] = refl
sum_by-add f g (t ∷ ts) =
    omega (arith, sum_by-cons (λ t. f t + g t) t ts, sum_by-cons f t ts, sum_by-cons g t ts, sum_by-add f g ts)

at-own : (k t : ℕ) → k ≡ t → one_at k t ≡ 1
at-own k t e = ap (λ b. cond b 1 0) (eq-eqb k t e)

at-other : (k t : ℕ) → (k ≡ t → ⊥) → one_at k t ≡ 0
at-other k t isnt = ap (λ b. cond b 1 0) (ne_eqb k t isnt)

none-below : (k a n : ℕ) → k < a → sum_by (one_at k) (upwards a n) ≡ 0
none-below k a zero less = refl
none-below k a (suc n) less =
    omega (arith, sum_by-cons (one_at k) a (upwards (a + 1) n), at-other k a (λ e. omega arith), none-below k (a + 1) n (omega arith))

one-among : (k a n : ℕ) → a ≤ k → k < a + n → sum_by (one_at k) (upwards a n) ≡ 1
one-among k a zero low high = absurd (omega arith)
one-among k a (suc n) low high =
    elim (cases_eq k a) [
      | inl e ↦ omega (arith, sum_by-cons (one_at k) a (upwards (a + 1) n), at-own k a e, none-below k (a + 1) n (omega arith))
      | inr isnt ↦
          omega (arith, sum_by-cons (one_at k) a (upwards (a + 1) n), at-other k a isnt, one-among k (a + 1) n (omega arith) (omega arith))
    ]

no-lines : (n : ℕ) (ts : List ℕ) → sum_by (λ t. length (calls_of_thread n [] t)) ts ≡ 0
no-lines n [] = refl
no-lines n (t ∷ ts) = omega (arith, sum_by-cons (λ t. length (calls_of_thread n [] t)) t ts, no-lines n ts)

one-line : (n : ℕ) (l : WorkerLine) (ls : List WorkerLine) (t : ℕ)
    → length (calls_of_thread n (l ∷ ls) t) ≡ one_at (l.worker % n) t + length (calls_of_thread n ls t)
one-line n l ls t =
    elim (eqb (l.worker % n) t)
    as (λ b. length (map (λ (x : WorkerLine). x.line) (cond b (l ∷ filter (λ x. eqb (x.worker % n) t) ls) (filter (λ x. eqb (x.worker % n) t) ls)))
    ≡ cond b 1 0 + length (calls_of_thread n ls t)) [ true ↦ omega arith | false ↦ omega arith ]

lines-of : (n : ℕ) (ls : List WorkerLine) → 0 < n → sum_by (λ t. length (calls_of_thread n ls t)) (upwards 0 n) ≡ length ls
lines-of n [] some = no-lines n (upwards 0 n)
lines-of n (l ∷ ls) some =
    let counts = λ (t : ℕ). length (calls_of_thread n ls t) in
    (λ i. sum_by (λ t. one-line n l ls t i) (upwards 0 n)) ∙ sum_by-add (one_at (l.worker % n)) counts (upwards 0 n)
    ∙ ap (λ s. s + sum_by counts (upwards 0 n)) (one-among (l.worker % n) 0 n (omega arith) (omega (arith, mod_below l.worker n some)))
    ∙ ap (λ s. 1 + s) (lines-of n ls some) ∙ omega arith

sum-lengths : (f : ℕ → List Line) (ts : List ℕ) → sum (map (λ (ls : List Line). length ls) (map f ts)) ≡ sum_by (λ t. length (f t)) ts
sum-lengths f [] = refl
sum-lengths f (t ∷ ts) =
    sum_by-cons (λ n. n) (length (f t)) (map (λ (ls : List Line). length ls) (map f ts)) ∙ ap (λ s. length (f t) + s) (sum-lengths f ts)
    ∙ sym (sum_by-cons (λ t. length (f t)) t ts)

-- as many as the phase
pub lines-of_threads : (n : ℕ) (phase : List WorkerLine) → 0 < n
    → sum (map (λ (ls : List Line). length ls) (threads_of n phase)) ≡ length phase
lines-of_threads n phase some = sum-lengths (calls_of_thread n phase) (upwards 0 n) ∙ lines-of n phase some

-- ---- what holds of each line of a phase holds of each line of its threads

pub all-threads : (P : Line → Type 0) (n : ℕ) (phase : List WorkerLine) → All (λ (l : WorkerLine). P l.line) phase
    → All (λ ls. All P ls) (threads_of n phase)
all-threads P n phase all =
    All-map (λ ls. All P ls) (calls_of_thread n phase) (upwards 0 n)
    (λ k d less. let t = get_or (upwards 0 n) k d in
    All-map P (λ (x : WorkerLine). x.line) (filter (λ x. eqb (x.worker % n) t) phase)
    (All-filter (λ x. eqb (x.worker % n) t) (λ (x : WorkerLine). P x.line) phase all))

-- ---- the parts of a generated phase

-- the part of a worker of this thread comes behind the thread's lines
pub part-own : (seed phase n t w : ℕ) → w % n ≡ t
    → calls_of_thread n (flat_map (part seed phase) (below (w + 1))) t
    ≡ calls_of_thread n (flat_map (part seed phase) (below w)) t ++ numbered (worker_line seed phase w + 1) (jobs_in seed phase w)
part-own seed phase n t w is =
    ap (λ ls. calls_of_thread n ls t) (flat_map-below-more (part seed phase) w)
    ∙ thread-own n t w (flat_map (part seed phase) (below w)) (numbered (worker_line seed phase w + 1) (jobs_in seed phase w)) is

-- that of another worker adds none
pub part-other : (seed phase n t w : ℕ) → (w % n ≡ t → ⊥)
    → calls_of_thread n (flat_map (part seed phase) (below (w + 1))) t ≡ calls_of_thread n (flat_map (part seed phase) (below w)) t
part-other seed phase n t w isnt =
    ap (λ ls. calls_of_thread n ls t) (flat_map-below-more (part seed phase) w)
    ∙ thread-other n t w (flat_map (part seed phase) (below w)) (numbered (worker_line seed phase w + 1) (jobs_in seed phase w)) isnt
