-- The threads that were made are those of the phase.
use Rattle.std.proofs.Common.{◌≡◌, ◌≤◌, ◌++◌, List, [], ◌∷◌, map, length, sum, ap, sym, ◌∙◌, arith}
use Rattle.std.specs.List.{All}
use Rattle.std.proofs.lemmas.List.{map-append}
use Rattle.std.proofs.lemmas.List.Elements.{All-same}
use Rattle.xf_types.specs.Batch.{Line, calls_of_thread, threads_of}
use Rattle.xf_types.specs.Counters.{upwards}
use Rattle.xf_batch.specs.Generated.{generated, line_number}
use Rattle.xf_batch.specs.Shown.{lines_shown, threads_shown}
use Rattle.xf_batch.proofs.GeneratedSizes.{generated-small, generated-numbers}
use Rattle.xf_batch.proofs.GeneratedThreads.{lines-of_threads, all-threads}
use Rattle.xf_batch.proofs.MakingLines.{upwards-more}
use Rattle.xf_batch.proofs.generated.generate.Goals as goal

pub loop-thread-preserved : goal.loop-thread-preserved
loop-thread-preserved c =
    let of_thread = calls_of_thread c.args.workers (generated c.args.seed c.args.phase) in
    let k = c.loop-thread.thread in
    ap threads_shown c.in_ok-put_thread.ensures ∙ map-append (λ tasks. lines_shown tasks.items) c.loop-thread.threads.items _
    ∙ ap (λ ls. threads_shown c.loop-thread.threads.items ++ ls ∷ []) c.in_ok-tasks.ensures
    ∙ ap (λ ts. ts ++ of_thread k ∷ []) c.loop-thread.invariant ∙ sym (map-append of_thread (upwards 0 k) (k ∷ []))
    ∙ ap (map of_thread) (ap (λ n. upwards 0 k ++ n ∷ []) (omega arith) ∙ sym (upwards-more 0 k))

-- behind the loop there are all threads
pub returns-clause-threads : goal.returns-clause-threads
returns-clause-threads c =
    let phase = generated c.args.seed c.args.phase in
    let all : c.loop-thread.thread ≡ c.args.workers = omega (arith, c.loop-thread-test.false, c.loop-thread.auto.thread-end) in
    c.loop-thread.invariant ∙ ap (λ n. map (calls_of_thread c.args.workers phase) (upwards 0 n)) all

pub returns-clause-count : goal.returns-clause-count
returns-clause-count c =
    ap (λ (ts : List (List Line)). sum (map (λ (ls : List Line). length ls) ts)) (returns-clause-threads c)
    ∙ lines-of_threads c.args.workers (generated c.args.seed c.args.phase) c.requires.some

pub returns-clause-small : goal.returns-clause-small
returns-clause-small c = omega (arith, returns-clause-count c, generated-small c.args.seed c.args.phase)

pub returns-clause-numbers : goal.returns-clause-numbers
returns-clause-numbers c =
    let phase = generated c.args.seed c.args.phase in
    All-same (λ ls. All (λ l. line_number l ≤ 16023) ls) (threads_shown c.loop-thread.threads.items) (threads_of c.args.workers phase)
    (returns-clause-threads c)
    (all-threads (λ l. line_number l ≤ 16023) c.args.workers phase
    (generated-numbers c.args.seed c.args.phase c.requires.first c.requires.last))
