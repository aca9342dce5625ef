-- The numbers of a summary have room for the lines of a phase.
use Rattle.std.proofs.Common.{◌≡◌, ℕ, ◌+◌, ◌-◌, ◌^◌, ◌<◌, ◌≤◌, List, length, map, get_or, refl, sym, ap, ◌∙◌, subst, arith}
use Rattle.std.specs.Prelude.{All}
use Rattle.std.proofs.lemmas.List.{length-map, get_or-map}
use Rattle.std.proofs.lemmas.List.Elements.{All-get_or}
use Rattle.xf_batch.specs.declared.task.Job.{Job}
use Rattle.xf_batch.specs.declared.task.Job.TheVariants as job
use Rattle.xf_batch.specs.declared.task.Task.{Task}
use Rattle.xf_batch.specs.Generated.{line_number}
use Rattle.xf_batch.specs.Shown.{line_with, line_of, lines_shown}
use Rattle.xf_tally.specs.Summary.{Summary}
use Rattle.xf_run.specs.Heard.{Sums, HasRoom, HearsAtMost}

-- the number of a line that asks for a job
number_with : (n : ℕ) (j : Job) → line_number (line_with n j) ≡ n
number_with n (job.One c) = refl
number_with n (job.Send flow len) = refl

-- no task of lines up to a number has a greater one
pub line_up_to : (tasks : List Task) (i most : ℕ) (t : Task) → i < length tasks → t ≡ get_or tasks i t
    → All (λ l. line_number l ≤ most) (lines_shown tasks) → t.line ≤ most
line_up_to tasks i most t lt is all =
    let at : line_number (get_or (map line_of tasks) i (line_of t)) ≤ most =
    All-get_or (λ l. line_number l ≤ most) (map line_of tasks) i (line_of t) (rw length-map lt) all
    in
    subst (λ (n : ℕ). n ≤ most)
    (ap line_number (get_or-map line_of tasks i t (line_of t) lt)
    ∙ ap (λ (u : Task). line_number (line_of u)) (sym is)
    ∙ number_with t.line t.job)
    at

-- a summary with room for so many replies counts no more of them
pub calls_at_most : (old new : Summary) (count : ℕ) → HearsAtMost count (Sums old) (Sums new) → old.calls + count ≤ 2 ^ 40
    → new.calls ≤ old.calls + count
calls_at_most old new count few le =
    let others : ℕ = 2 ^ 40 - (old.calls + count) in
    let room : HasRoom (Sums new) 0 others = few 0 others (omega arith, omega (arith, le)) in
    omega (arith, le, room.1)
