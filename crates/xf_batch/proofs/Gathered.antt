-- A call line that the phase has room for.
use Rattle.std.proofs.Common.{◌≡◌, ℕ, ◌+◌, ◌<◌, ◌%◌, true, false, List, [], ◌∷◌, ◌++◌, length, count_by, get_or, set, refl, sym, ap, ◌∙◌, subst, Ok, cond, zero-add}
use Rattle.std.specs.Global.{Vec}
use Rattle.std.proofs.lemmas.List.{length_push, length-map}
use Rattle.std.proofs.lemmas.List.Sums.{sum_by-append}
use Rattle.xf_types.specs.Batch.{Line, WorkerLine, threads_of}
use Rattle.xf_batch.specs.declared.gather.Gather.{Gather}
use Rattle.xf_batch.specs.declared.task.Task.{Task}
use Rattle.xf_batch.specs.Batch.{Gathered, Effect, GoesOn, is_list_line, is_over, with_call, with_line}
use Rattle.xf_batch.specs.Gathers.{Gathers, Puts}
use Rattle.xf_batch.specs.Shown.{line_of, lines_shown, threads_shown}
use Rattle.xf_batch.proofs.Threads.{threads-more, length-threads_of}

with_call-room : (g : Gathered) (l : Line) → is_over (length g.calls) (count_by (λ c. is_list_line c.line) g.calls) l ≡ false
    → with_call g l ≡ GoesOn (with_line g l)
with_call-room g l room = rw (room) refl

-- how many lists there are with one more line
lists-more : (calls : List WorkerLine) (c : WorkerLine)
    → count_by (λ w. is_list_line w.line) (calls ++ c ∷ []) ≡ count_by (λ w. is_list_line w.line) calls + cond (is_list_line c.line) 1 0
lists-more calls c = sum_by-append _ calls (c ∷ []) ∙ ap (λ n. count_by (λ w. is_list_line w.line) calls + n) (zero-add (cond (is_list_line c.line) 1 0))

Puts-own : (s new : Gather) (g : Gathered) (n : ℕ) (task : Task) (old thread : Vec Task)
    → 0 < length s.threads.items
    → is_over s.calls s.lists (line_of task) ≡ false
    → old ≡ get_or s.threads.items (s.worker % length s.threads.items) old
    → thread.items ≡ old.items ++ task ∷ []
    → new.threads.items ≡ set s.threads.items (s.worker % length s.threads.items) thread
    → new.worker ≡ s.worker
    → new.calls ≡ s.calls + 1
    → new.lists ≡ s.lists + cond (is_list_line (line_of task)) 1 0
    → Gathers (length s.threads.items) s g → Puts (length s.threads.items) n g (with_call g (line_of task)) new (Ok true)
Puts-own s new g n task old thread some room at more threads worker calls lists before =
    let count = λ (ws : List WorkerLine). count_by (λ w. is_list_line w.line) ws in
    let l = line_of task in
    let w : WorkerLine = record { worker = g.worker; line = l } in
    let has_room : is_over (length g.calls) (count g.calls) l ≡ false =
    ap (λ n. is_over n (count g.calls) l) (sym before.calls) ∙ ap (λ n. is_over s.calls n l) (sym before.lists) ∙ room
    in
    let after : Gathers (length s.threads.items) new (with_line g l) = record {
      threads =
          ap threads_shown threads
          ∙ threads-more s.threads.items (length s.threads.items) s.worker g.calls old thread task before.threads refl some at more
          ∙ ap (λ k. threads_of (length s.threads.items) (g.calls ++ (record { worker = k; line = l }) ∷ [])) before.worker;
      worker = worker ∙ before.worker;
      calls = calls ∙ ap (λ k. k + 1) before.calls ∙ sym (length_push g.calls w);
      lists = lists ∙ ap (λ k. k + cond (is_list_line l) 1 0) before.lists ∙ sym (lists-more g.calls w);
    } in
    subst (λ (e : Effect). Puts (length s.threads.items) n g e new (Ok true)) (sym (with_call-room g l has_room)) (refl, after)

-- there are as many threads as workers
pub threads-count : (workers : ℕ) (s : Gather) (g : Gathered) → Gathers workers s g → length s.threads.items ≡ workers
threads-count workers s g before =
    sym (length-map s.threads.items (λ (tasks : Vec Task). lines_shown tasks.items))
    ∙ ap (λ (ts : List (List Line)). length ts) before.threads
    ∙ length-threads_of workers g.calls

pub Puts-call : (workers : ℕ) (s new : Gather) (g : Gathered) (n : ℕ) (task : Task) (old thread : Vec Task)
    → 0 < length s.threads.items
    → is_over s.calls s.lists (line_of task) ≡ false
    → old ≡ get_or s.threads.items (s.worker % length s.threads.items) old
    → thread.items ≡ old.items ++ task ∷ []
    → new.threads.items ≡ set s.threads.items (s.worker % length s.threads.items) thread
    → new.worker ≡ s.worker
    → new.calls ≡ s.calls + 1
    → new.lists ≡ s.lists + cond (is_list_line (line_of task)) 1 0
    → Gathers workers s g → Puts workers n g (with_call g (line_of task)) new (Ok true)
Puts-call workers s new g n task old thread some room at more threads worker calls lists before =
    subst (λ (k : ℕ). Gathers k s g → Puts k n g (with_call g (line_of task)) new (Ok true)) (threads-count workers s g before)
    (Puts-own s new g n task old thread some room at more threads worker calls lists) before
