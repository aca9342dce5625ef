use Rattle.std.proofs.Common.{[], ◌∷◌, ◌++◌, List, ap, sym, ◌∙◌}
use Rattle.std.specs.Global.{Vec}
use Rattle.std.proofs.lemmas.List.{map-append}
use Rattle.xf_types.specs.Batch.{Line, threads_of}
use Rattle.xf_batch.specs.declared.task.Task.{Task}
use Rattle.xf_batch.specs.Shown.{threads_shown, lines_shown}
use Rattle.xf_batch.proofs.Threads.{no_calls_more}
use Rattle.xf_batch.proofs.gather.Gather.new.Goals as goal

pub loop-preserved : goal.loop-preserved
loop-preserved c =
    ap threads_shown c.in_ok-push.ensures.items
    ∙ map-append (λ (tasks : Vec Task). lines_shown tasks.items) c.loop.threads.items (c.new.result ∷ [])
    ∙ ap (λ (ts : List (List Line)). ts ++ lines_shown c.new.result.items ∷ []) c.loop.invariant
    ∙ ap (λ (tasks : List Task). threads_of c.loop.counter [] ++ lines_shown tasks ∷ []) c.new.ensures.items
    ∙ sym (no_calls_more c.loop.counter)
