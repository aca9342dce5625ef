-- How many call lines a thread has at most.
use Rattle.std.proofs.Common.{◌≡◌, ◌≤◌, ◌+◌, List, [], ◌∷◌, length, get_or, map, arith, sym, ap, ◌∙◌}
use Rattle.std.specs.Prelude.{sum}
use Rattle.std.specs.List.{sum_by}
use Rattle.std.proofs.lemmas.List.{length-map}
use Rattle.std.proofs.lemmas.List.Sums.{sum-map, sum_by-cons}
use Rattle.xf_types.specs.Batch.{Line}
use Rattle.xf_batch.specs.declared.task.Task.{Task}
use Rattle.xf_batch.specs.Shown.{line_of, lines_shown}

-- the first thread has no more than all threads
pub first_few : (xs : List (List Line)) → length (get_or xs 0 []) ≤ sum (map length xs)
first_few [] = omega arith
first_few (x ∷ xs) =
    let all : sum (map length (x ∷ xs)) ≡ length x + sum_by length xs = sum-map length (x ∷ xs) ∙ sum_by-cons length x xs in
    omega (arith, all)

-- the first thread's tasks are no more than all call lines
pub tasks_few : (ts : List Task) (xs : List (List Line)) → lines_shown ts ≡ get_or xs 0 [] → length ts ≤ sum (map length xs)
tasks_few ts xs e =
    let count : length ts ≡ length (get_or xs 0 []) = sym (length-map ts line_of) ∙ ap (λ (ls : List Line). length ls) e in
    omega (arith, count, first_few xs)
