-- The call lines by thread, with one more.
use Rattle.std.proofs.Common.{◌≡◌, ◌≢◌, ℕ, zero, suc, ◌+◌, ◌<◌, ◌≤◌, ◌==◌, ◌%◌, zero-add, append-nil, true, false, List, [], ◌∷◌, ◌++◌, map, length, get_or, refl, sym, ap, ◌∙◌, arith, set}
use Rattle.std.specs.Prelude.{filter}
use Rattle.std.specs.Global.{Vec}
use Rattle.std.proofs.lemmas.List.{map-append, map-set, get_or-map}
use Rattle.std.proofs.lemmas.List.Elements.{filter-append}
use Rattle.std.proofs.lemmas.Bool.Decides.{nat_tests}
use Rattle.xf_types.specs.Batch.{Line, WorkerLine, calls_of_thread, threads_of}
use Rattle.xf_types.specs.Counters.{upwards}
use Rattle.xf_batch.specs.declared.task.Task.{Task}
use Rattle.xf_batch.specs.Shown.{line_of, lines_shown, threads_shown}

-- a function of the numbers from n up
pub same_upwards : {X : Type 0} (f g : ℕ → X) (n count : ℕ) → ((t : ℕ) → n ≤ t → g t ≡ f t) → map g (upwards n count) ≡ map f (upwards n count)
same_upwards f g n zero same = refl
same_upwards f g n (suc count) same =
    ap (λ x. x ∷ map g (upwards (n + 1) count)) (same n (omega arith))
    ∙ ap (λ xs. f n ∷ xs) (same_upwards f g (n + 1) count (λ t above. same t (omega (arith, above))))

-- one that differs at a single number
pub set_upwards : {X : Type 0} (f g : ℕ → X) (n count i : ℕ) → i < count → ((t : ℕ) → t ≢ n + i → g t ≡ f t)
    → map g (upwards n count) ≡ set (map f (upwards n count)) i (g (n + i))
set_upwards f g n zero i within same = absurd (omega (arith, within))
set_upwards f g n (suc count) zero within same =
    let here : g n ≡ g (n + 0) = ap g (omega arith) in
    ap (λ x. x ∷ map g (upwards (n + 1) count)) here
    ∙ ap (λ xs. g (n + 0) ∷ xs) (same_upwards f g (n + 1) count (λ t above. same t (λ e. omega (arith, above, e))))
set_upwards f g n (suc count) (suc i) within same =
    let there : g ((n + 1) + i) ≡ g (n + suc i) = ap g (omega arith) in
    ap (λ x. x ∷ map g (upwards (n + 1) count)) (same n (λ e. omega (arith, e)))
    ∙ ap (λ xs. f n ∷ xs) (set_upwards f g (n + 1) count i (omega (arith, within)) (λ t other. same t (λ e. other (omega (arith, e)))))
    ∙ ap (λ x. f n ∷ set (map f (upwards (n + 1) count)) i x) there

get_upwards : {X : Type 0} (f : ℕ → X) (n count i : ℕ) (d : X) → i < count → get_or (map f (upwards n count)) i d ≡ f (n + i)
get_upwards f n zero i d within = absurd (omega (arith, within))
get_upwards f n (suc count) zero d within = ap f (omega arith)
get_upwards f n (suc count) (suc i) d within = get_upwards f (n + 1) count i d (omega (arith, within)) ∙ ap f (omega arith)

-- one more at the end
more_upwards : {X : Type 0} (f : ℕ → X) (n count : ℕ) → map f (upwards n (count + 1)) ≡ map f (upwards n count) ++ f (n + count) ∷ []
more_upwards f n zero = ap (λ k. f k ∷ []) (omega arith)
more_upwards f n (suc count) =
    let further : suc count + 1 ≡ suc (count + 1) = omega arith in
    ap (λ k. map f (upwards n k)) further
    ∙ ap (λ xs. f n ∷ xs) (more_upwards f (n + 1) count)
    ∙ ap (λ k. (f n ∷ map f (upwards (n + 1) count)) ++ f k ∷ []) (omega arith)

-- a phase without call lines has one more thread
pub no_calls_more : (threads : ℕ) → threads_of (threads + 1) [] ≡ threads_of threads [] ++ [] ∷ []
no_calls_more threads = more_upwards (λ t. []) 0 threads

-- how many threads there are
length_upwards : {X : Type 0} (f : ℕ → X) (n count : ℕ) → length (map f (upwards n count)) ≡ count
length_upwards f n zero = refl
length_upwards f n (suc count) = ap suc (length_upwards f (n + 1) count)

pub length-threads_of : (threads : ℕ) (calls : List WorkerLine) → length (threads_of threads calls) ≡ threads
length-threads_of threads calls = length_upwards (calls_of_thread threads calls) 0 threads

-- a thread's calls, with one more of its own
calls-own : (threads : ℕ) (calls : List WorkerLine) (c : WorkerLine) (t : ℕ) → c.worker % threads ≡ t
    → calls_of_thread threads (calls ++ c ∷ []) t ≡ calls_of_thread threads calls t ++ c.line ∷ []
calls-own threads calls c t own =
    let test : ((c.worker % threads) == t) ≡ true = grind (arith, nat_tests, own) in
    ap (map (λ l. l.line)) (filter-append (λ l. (l.worker % threads) == t) calls (c ∷ []))
    ∙ map-append (λ l. l.line) (filter (λ l. (l.worker % threads) == t) calls) (filter (λ l. (l.worker % threads) == t) (c ∷ []))
    ∙ rw (test) refl

-- with one more of another's
calls-other : (threads : ℕ) (calls : List WorkerLine) (c : WorkerLine) (t : ℕ) → t ≢ c.worker % threads
    → calls_of_thread threads (calls ++ c ∷ []) t ≡ calls_of_thread threads calls t
calls-other threads calls c t other =
    let test : ((c.worker % threads) == t) ≡ false = grind (arith, nat_tests, other) in
    ap (map (λ l. l.line)) (filter-append (λ l. (l.worker % threads) == t) calls (c ∷ []))
    ∙ map-append (λ l. l.line) (filter (λ l. (l.worker % threads) == t) calls) (filter (λ l. (l.worker % threads) == t) (c ∷ []))
    ∙ rw (test) (append-nil (calls_of_thread threads calls t))

-- one more call line goes behind those of its thread
pub threads_of-more : (threads : ℕ) (calls : List WorkerLine) (c : WorkerLine) → 0 < threads
    → threads_of threads (calls ++ c ∷ [])
    ≡ set (threads_of threads calls) (c.worker % threads) (calls_of_thread threads calls (c.worker % threads) ++ c.line ∷ [])
threads_of-more threads calls c some =
    set_upwards (calls_of_thread threads calls) (calls_of_thread threads (calls ++ c ∷ [])) 0 threads (c.worker % threads) (omega arith)
    (λ t other. calls-other threads calls c t (λ e. other (omega (arith, e))))
    ∙ ap (set (threads_of threads calls) (c.worker % threads))
    (ap (calls_of_thread threads (calls ++ c ∷ [])) (zero-add (c.worker % threads))
    ∙ calls-own threads calls c (c.worker % threads) refl)

-- the lines of one thread
pub threads_of-at : (threads : ℕ) (calls : List WorkerLine) (t : ℕ) → t < threads
    → get_or (threads_of threads calls) t [] ≡ calls_of_thread threads calls t
threads_of-at threads calls t within =
    get_upwards (calls_of_thread threads calls) 0 threads t [] within ∙ ap (calls_of_thread threads calls) (zero-add t)

-- a thread's list in the code, with one more
pub threads_shown-more : (threads : List (Vec Task)) (i : ℕ) (old new : Vec Task) (task : Task) → i < length threads → old ≡ get_or threads i old
    → new.items ≡ old.items ++ task ∷ []
    → threads_shown (set threads i new) ≡ set (threads_shown threads) i (get_or (threads_shown threads) i [] ++ line_of task ∷ [])
threads_shown-more threads i old new task within at more =
    let shown = λ (tasks : Vec Task). lines_shown tasks.items in
    map-set shown threads i new
    ∙ ap (set (threads_shown threads) i)
    (ap lines_shown more
    ∙ map-append line_of old.items (task ∷ [])
    ∙ ap (λ (ls : List Line). ls ++ line_of task ∷ []) (ap shown at ∙ sym (get_or-map shown threads i old [] within)))

-- so a call line in its thread's list is one more of the phase
pub threads-more : (threads : List (Vec Task)) (workers worker : ℕ) (calls : List WorkerLine) (old new : Vec Task) (task : Task)
    → threads_shown threads ≡ threads_of workers calls → length threads ≡ workers → 0 < workers
    → old ≡ get_or threads (worker % workers) old → new.items ≡ old.items ++ task ∷ []
    → threads_shown (set threads (worker % workers) new)
    ≡ threads_of workers (calls ++ (record { worker = worker; line = line_of task }) ∷ [])
threads-more threads workers worker calls old new task same count some at more =
    threads_shown-more threads (worker % workers) old new task (omega (arith, count, some)) at more
    ∙ ap (λ (ts : List (List Line)). set ts (worker % workers) (get_or ts (worker % workers) [] ++ line_of task ∷ [])) same
    ∙ ap (λ (ls : List Line). set (threads_of workers calls) (worker % workers) (ls ++ line_of task ∷ []))
    (threads_of-at workers calls (worker % workers) (omega (arith, some)))
    ∙ sym (threads_of-more workers calls (record { worker = worker; line = line_of task }) some)
