-- Where a batch begins, a phase follows or a bad line.
use Rattle.std.proofs.Common.{◌≢◌, ◌⊎◌, inl, inr, ℕ, Bool, true, false, List, [], ◌∷◌, None, Some}
use Rattle.xf_types.specs.Batch.{WorkerLine}
use Rattle.xf_batch.specs.Batch.{Batch, BadLine, Effect, IsBad, GoesOn, Ends, Gathered, Standing, batch_at, batch_from, beginning, behind, by_effect, later, line_effect, followed, refused_at}
use Rattle.xf_batch.specs.LineEnds.{has_feed}

-- the batch has a phase, or a bad line
abbrev pub Follows : Batch → Type 0
Follows b = (b.phases ≢ []) ⊎ (b.bad ≢ None)

some_phase : (calls : List WorkerLine) (phases : List (List WorkerLine)) → calls ∷ phases ≢ []
some_phase calls phases = λ e. cc e

some_bad : (bad : BadLine) → Some bad ≢ None
some_bad bad = λ e. cc e

-- whatever a line does
by_effect-follows : (x : Effect) (line : ℕ) (on : Gathered → Batch) (end : Batch) → ((more : Gathered) → Follows (on more)) → Follows end
    → Follows (by_effect x (refused_at line) on end)
by_effect-follows (IsBad why) line on end h k = inr (some_bad _)
by_effect-follows (GoesOn more) line on end h k = h more
by_effect-follows Ends line on end h k = k

followed-follows : (more synced : Bool) (calls : List WorkerLine) (b : Batch) → Follows (followed more synced calls b)
followed-follows true synced calls b = inl (some_phase calls b.phases)
followed-follows false synced calls b = inl (some_phase calls [])

batch_from-follows : (answers : ℕ → ℕ) (g : Gathered) (at : Standing) (lines : List (List ℕ)) → Follows (batch_from answers g at lines)
batch_from-follows answers g at [] = inl (some_phase g.calls [])
batch_from-follows answers g at (line ∷ lines) =
    by_effect-follows (line_effect (answers 0) g at line) at.line _ _ (λ more. batch_from-follows answers more (behind at line) lines)
    (followed-follows (has_feed line) true g.calls (batch_from (later answers) beginning (behind at line) lines))

-- from any place on
pub some_follows : (answers : ℕ → ℕ) (at : Standing) (bytes : List ℕ) → Follows (batch_at answers at bytes)
unfolding batch_at
some_follows answers at bytes = batch_from-follows answers beginning at _
