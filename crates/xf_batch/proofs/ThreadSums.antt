-- Each call line is of one thread: the threads have as many as the phase.
use Rattle.std.proofs.Common.{◌≡◌, ◌≢◌, ℕ, zero, suc, ◌+◌, ◌<◌, ◌==◌, ◌%◌, true, false, List, [], ◌∷◌, map, length, get_or, set, sum, refl, ap, ◌∙◌, arith, zero-add}
use Rattle.std.specs.Prelude.{sum_by}
use Rattle.std.proofs.lemmas.List.Sums.{sum-map, sum_by-cons, sum_by-set}
use Rattle.std.proofs.lemmas.Bool.Decides.{nat_tests}
use Rattle.xf_types.specs.Batch.{Line, WorkerLine, calls_of_thread, threads_of}
use Rattle.xf_types.specs.Counters.{upwards}
use Rattle.xf_batch.proofs.Threads.{set_upwards, length-threads_of, threads_of-at}

calls-first : (threads : ℕ) (c : WorkerLine) (calls : List WorkerLine) (t : ℕ) → (c.worker % threads) ≡ t
    → calls_of_thread threads (c ∷ calls) t ≡ c.line ∷ calls_of_thread threads calls t
calls-first threads c calls t own =
    let test : ((c.worker % threads) == t) ≡ true = grind (arith, nat_tests, own) in
    rw (test) refl

calls-others : (threads : ℕ) (c : WorkerLine) (calls : List WorkerLine) (t : ℕ) → t ≢ c.worker % threads
    → calls_of_thread threads (c ∷ calls) t ≡ calls_of_thread threads calls t
calls-others threads c calls t other =
    let test : ((c.worker % threads) == t) ≡ false = grind (arith, nat_tests, other) in
    rw (test) refl

-- a first call line stands before those of its thread
threads_of-first : (threads : ℕ) (c : WorkerLine) (calls : List WorkerLine) → 0 < threads
    → threads_of threads (c ∷ calls)
    ≡ set (threads_of threads calls) (c.worker % threads) (c.line ∷ calls_of_thread threads calls (c.worker % threads))
threads_of-first threads c calls some =
    set_upwards (calls_of_thread threads calls) (calls_of_thread threads (c ∷ calls)) 0 threads (c.worker % threads) (omega arith)
    (λ t other. calls-others threads c calls t (λ e. other (omega (arith, e))))
    ∙ ap (set (threads_of threads calls) (c.worker % threads))
    (ap (calls_of_thread threads (c ∷ calls)) (zero-add (c.worker % threads))
    ∙ calls-first threads c calls (c.worker % threads) refl)

sum-none : (n count : ℕ) → sum_by length (map {B = List Line} (λ t. []) (upwards n count)) ≡ 0
sum-none n zero = refl
sum-none n (suc count) =
    sum_by-cons length [] (map {B = List Line} (λ t. []) (upwards (n + 1) count)) ∙ zero-add _ ∙ sum-none (n + 1) count

sum_by-threads : (threads : ℕ) (calls : List WorkerLine) → 0 < threads → sum_by length (threads_of threads calls) ≡ length calls
sum_by-threads threads [] some = sum-none 0 threads
sum_by-threads threads (c ∷ calls) some =
    let before = threads_of threads calls in
    let k = c.worker % threads in
    let one = sum_by-set length before k (c.line ∷ calls_of_thread threads calls k) [] (omega (arith, length-threads_of threads calls)) in
    let own : length (get_or before k []) ≡ length (calls_of_thread threads calls k) = ap length (threads_of-at threads calls k (omega (arith, some))) in
    ap (sum_by length) (threads_of-first threads c calls some) ∙ omega (arith, one, own, sum_by-threads threads calls some)

pub sum-threads : (threads : ℕ) (calls : List WorkerLine) → 0 < threads → sum (map length (threads_of threads calls)) ≡ length calls
sum-threads threads calls some = sum-map length (threads_of threads calls) ∙ sum_by-threads threads calls some
