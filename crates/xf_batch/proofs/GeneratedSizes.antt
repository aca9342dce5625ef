-- How many lines the workers and the phases of a generated input have, and their numbers.
use Rattle.std.proofs.Common.{◌≡◌, ℕ, zero, suc, ◌+◌, ◌-◌, ◌*◌, ◌%◌, ◌<◌, ◌≤◌, Bool, true, false, cond, eqb, List, [], ◌∷◌, length, map, sum, inl, inr, refl, ap, sym, subst, ◌∙◌, lit≤, arith}
use Rattle.std.specs.List.{All, flat_map}
use Rattle.std.proofs.lemmas.Bool.{ne_eqb, cases_eq}
use Rattle.std.proofs.lemmas.List.{length-append, length-map}
use Rattle.std.proofs.lemmas.List.Elements.{All-nil, All-cons, All-append, All-map, All-weaker}
use Rattle.std.proofs.lemmas.List.Sums.{sum_by-cons}
use Rattle.xf_types.specs.Batch.{WorkerLine}
use Rattle.xf_types.specs.Counters.{upwards}
use Rattle.xf_batch.specs.declared.task.Job.{Job}
use Rattle.xf_batch.specs.declared.task.Job.TheVariants as job
use Rattle.xf_batch.specs.Shown.{line_with}
use Rattle.xf_batch.specs.GeneratedCalls.{x_after, value_at, add_policy, add_state, send_to, bring, delete_policy, delete_state, look_up}
use Rattle.xf_batch.specs.Generated.{below, adding, last_packet, packets, traffic, deleting, looking_up, values_of, x_at, jobs_in, numbered, part_size, phase_size, worker_line, part, generated, line_number}
use Rattle.xf_batch.proofs.MakingLines.{length-map-below, length-pairs, length-numbered}

-- ---- how many lines a worker has in a phase

length-adding : (w x : ℕ) → length (adding w x) ≡ 1000
length-adding w x =
    omega (
      arith,
      length-append (map (λ i. add_policy w i (value_at i x)) (below 500)) (map (add_state w) (below 500)),
      length-map-below (λ i. add_policy w i (value_at i x)) 500,
      length-map-below (add_state w) 500,
    )

length-sends : (w x : ℕ) → length (map (λ i. send_to w (value_at i x)) (below 1000)) ≡ 1000
length-sends w x = length-map-below (λ i. send_to w (value_at i x)) 1000

length-packets : (w x : ℕ) → length (packets w x) ≡ 501
length-packets w x =
    length-append (map (λ i. bring w (value_at i x) (i + 1)) (below 500)) (last_packet w (x_after 500 x))
    ∙ ap (λ n. n + 1) (length-map-below (λ i. bring w (value_at i x) (i + 1)) 500)

length-traffic : (w x : ℕ) → length (traffic w x) ≡ 1501
length-traffic w x =
    length-append (map (λ i. send_to w (value_at i x)) (below 1000)) (packets w (x_after 1000 x))
    ∙ ap (λ n. n + length (packets w (x_after 1000 x))) (length-sends w x) ∙ ap (λ n. 1000 + n) (length-packets w (x_after 1000 x))

length-deleting : (w : ℕ) → length (deleting w) ≡ 500
length-deleting w = length-pairs (λ k. delete_policy w (2 * k)) (λ k. delete_state w (2 * k)) 250

length-looking_up : (w x : ℕ) → length (looking_up w x) ≡ 1000
length-looking_up w x = length-map-below (λ i. look_up w ((i + value_at 0 x % 500) % 500)) 1000

-- the line `worker w` counts too
abbrev pub size_of : ℕ → ℕ
size_of phase = cond (eqb phase 1) 1001 (cond (eqb phase 2) 1502 (cond (eqb phase 3) 501 1001))

pub part-size : (seed phase w : ℕ) → part_size seed phase w ≡ size_of phase
part-size seed phase w = by (eqb phase 1) (eqb phase 2) (eqb phase 3)
  where
    x : ℕ
    x = x_at seed phase w

    by : (first second third : Bool) → 1 + length (cond first (adding w x) (cond second (traffic w x) (cond third (deleting w) (looking_up w x))))
        ≡ cond first 1001 (cond second 1502 (cond third 501 1001))
    by true second third = ap (λ n. 1 + n) (length-adding w x)
    by false true third = ap (λ n. 1 + n) (length-traffic w x)
    by false false true = ap (λ n. 1 + n) (length-deleting w)
    by false false false = ap (λ n. 1 + n) (length-looking_up w x)

-- ---- sums of equal sizes

sum-same : (f : ℕ → ℕ) (size : ℕ) → ((w : ℕ) → f w ≡ size) → (a n : ℕ) → sum (map f (upwards a n)) ≡ n * size
sum-same f size same a zero = omega arith
sum-same f size same a (suc n) =
    sum_by-cons (λ k. k) (f a) (map f (upwards (a + 1) n)) ∙ ap (λ k. k + sum (map f (upwards (a + 1) n))) (same a)
    ∙ ap (λ k. size + k) (sum-same f size same (a + 1) n) ∙ omega arith

pub parts-before : (seed phase w : ℕ) → sum (map (part_size seed phase) (below w)) ≡ w * size_of phase
unfolding below
parts-before seed phase w = sum-same (part_size seed phase) (size_of phase) (part-size seed phase) 0 w

pub phase-size : (seed phase : ℕ) → phase_size seed phase ≡ 4 * size_of phase + 1
phase-size seed phase = ap (λ n. n + 1) (parts-before seed phase 4)

-- ---- in each phase

pub size-otherwise : (phase : ℕ) → (phase ≡ 2 → ⊥) → (phase ≡ 3 → ⊥) → size_of phase ≡ 1001
size-otherwise phase isnt_2 isnt_3 =
    ap (λ b. cond (eqb phase 1) 1001 (cond b 1502 (cond (eqb phase 3) 501 1001))) (ne_eqb phase 2 isnt_2)
    ∙ ap (λ b. cond (eqb phase 1) 1001 (cond b 501 1001)) (ne_eqb phase 3 isnt_3) ∙ both (eqb phase 1)
  where
    both : (b : Bool) → ◌≡◌ {A = ℕ} (cond b 1001 1001) 1001
    both true = refl
    both false = refl

-- how many values are taken before the third phase and before the fourth
pub values-before : (phase : ℕ) → 3 ≤ phase → phase ≤ 4 → 2000 ≡ sum (map values_of (upwards 1 (phase - 1)))
values-before phase low high =
    elim (cases_eq phase 3) [
      | inl e ↦ ap (λ p. sum (map values_of (upwards 1 (p - 1)))) (sym e)
      | inr isnt ↦
          let e : 4 ≡ phase = omega arith in
          ap (λ p. sum (map values_of (upwards 1 (p - 1)))) e
    ]

-- how many lines come before
pub before-second : (seed : ℕ) → sum (map (phase_size seed) (upwards 1 1)) ≡ 4005
before-second seed = omega (arith, phase-size seed 1)

pub before-third : (seed : ℕ) → sum (map (phase_size seed) (upwards 1 2)) ≡ 10014
before-third seed = omega (arith, phase-size seed 1, phase-size seed 2)

pub before-fourth : (seed : ℕ) → sum (map (phase_size seed) (upwards 1 3)) ≡ 12019
before-fourth seed = omega (arith, phase-size seed 1, phase-size seed 2, phase-size seed 3)

-- ---- how many call lines a phase has

length-part : (seed phase w : ℕ) → 1 + length (part seed phase w) ≡ size_of phase
length-part seed phase w =
    ap (λ n. 1 + n)
    (length-map (numbered (worker_line seed phase w + 1) (jobs_in seed phase w)) (λ l. record { worker = w; line = l })
    ∙ length-numbered (worker_line seed phase w + 1) (jobs_in seed phase w)) ∙ part-size seed phase w

length-parts : (seed phase a n : ℕ) → n + length (flat_map (part seed phase) (upwards a n)) ≡ n * size_of phase
length-parts seed phase a zero = omega arith
length-parts seed phase a (suc n) =
    omega (
      arith,
      length-append (part seed phase a) (flat_map (part seed phase) (upwards (a + 1) n)),
      length-part seed phase a,
      length-parts seed phase (a + 1) n,
    )

size-most : (phase : ℕ) → size_of phase ≤ 1502
size-most phase = by (eqb phase 1) (eqb phase 2) (eqb phase 3)
  where
    by : (first second third : Bool) → cond first 1001 (cond second 1502 (cond third 501 1001)) ≤ 1502
    by true second third = lit≤ tt
    by false true third = lit≤ tt
    by false false true = lit≤ tt
    by false false false = lit≤ tt

pub generated-small : (seed phase : ℕ) → length (generated seed phase) ≤ 6004
unfolding generated below
generated-small seed phase = omega (arith, length-parts seed phase 0 4, size-most phase)

-- ---- the numbers of the call lines

-- what holds in each of the four phases
pub each_phase : (P : ℕ → Type 0) → P 1 → P 2 → P 3 → P 4 → (phase : ℕ) → 1 ≤ phase → phase ≤ 4 → P phase
each_phase P one two three four phase low high =
    elim (cases_eq phase 1) [
      | inl e ↦ subst P (sym e) one
      | inr isnt_1 ↦ elim (cases_eq phase 2) [
        | inl e ↦ subst P (sym e) two
        | inr isnt_2 ↦ elim (cases_eq phase 3) [
          | inl e ↦ subst P (sym e) three
          | inr isnt_3 ↦ let e : 4 ≡ phase = omega arith in subst P e four
        ]
      ]
    ]

-- a worker's lines end before this one
part-end : (seed phase w : ℕ) → 1 ≤ phase → phase ≤ 4 → w < 4 → worker_line seed phase w + 1 + length (jobs_in seed phase w) ≤ 16024
part-end seed phase w low high less =
    omega (
      arith,
      part-size seed phase w,
      each_phase (λ p. worker_line seed p w + size_of p ≤ 16024)
          (omega (arith, parts-before seed 1 w))
          (omega (arith, before-second seed, parts-before seed 2 w))
          (omega (arith, before-third seed, parts-before seed 3 w))
          (omega (arith, before-fourth seed, parts-before seed 4 w)) phase low high,
    )

number-with : (n : ℕ) (j : Job) → line_number (line_with n j) ≡ n
number-with n (job.One c) = refl
number-with n (job.Send flow len) = refl

numbers-below : (n m : ℕ) (js : List Job) → n + length js ≤ m → All (λ l. line_number l < m) (numbered n js)
numbers-below n m [] fits = All-nil (λ l. line_number l < m)
numbers-below n m (j ∷ js) fits =
    All-cons (λ l. line_number l < m) (line_with n j) (numbered (n + 1) js) (omega (arith, number-with n j))
    (numbers-below (n + 1) m js (omega arith))

part-numbers : (seed phase w : ℕ) → 1 ≤ phase → phase ≤ 4 → w < 4
    → All (λ (l : WorkerLine). line_number l.line ≤ 16023) (part seed phase w)
part-numbers seed phase w low high less =
    let ls = numbered (worker_line seed phase w + 1) (jobs_in seed phase w) in
    All-map (λ (l : WorkerLine). line_number l.line ≤ 16023) (λ l. record { worker = w; line = l }) ls
    (All-weaker (λ l. line_number l < 16024) (λ l. line_number l ≤ 16023) (λ l below_end. omega arith) ls
    (numbers-below (worker_line seed phase w + 1) 16024 (jobs_in seed phase w) (part-end seed phase w low high less)))

parts-numbers : (seed phase a n : ℕ) → 1 ≤ phase → phase ≤ 4 → a + n ≤ 4
    → All (λ (l : WorkerLine). line_number l.line ≤ 16023) (flat_map (part seed phase) (upwards a n))
parts-numbers seed phase a zero low high fits = All-nil (λ (l : WorkerLine). line_number l.line ≤ 16023)
parts-numbers seed phase a (suc n) low high fits =
    All-append (λ (l : WorkerLine). line_number l.line ≤ 16023) (part seed phase a) (flat_map (part seed phase) (upwards (a + 1) n))
    (part-numbers seed phase a low high (omega arith)) (parts-numbers seed phase (a + 1) n low high (omega arith))

pub generated-numbers : (seed phase : ℕ) → 1 ≤ phase → phase ≤ 4
    → All (λ (l : WorkerLine). line_number l.line ≤ 16023) (generated seed phase)
unfolding generated below
generated-numbers seed phase low high = parts-numbers seed phase 0 4 low high (lit≤ tt)
