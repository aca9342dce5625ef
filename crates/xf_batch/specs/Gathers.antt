-- What code keeps of a phase that is being read, and what a line does to it.
use Rattle.std.specs.Prelude.{◌≡◌, ℕ, Bool, true, false, length, count_by, Result, Ok, Err}
use Rattle.xf_types.specs.Batch.{threads_of}
use Rattle.xf_batch.specs.declared.gather.Gather.{Gather}
use Rattle.xf_batch.specs.declared.fault.PhaseFault.{PhaseFault}
use Rattle.xf_batch.specs.declared.fault.PhaseFault.TheVariants as fault
use Rattle.xf_batch.specs.Batch.{Gathered, Effect, IsBad, GoesOn, Ends, is_list_line}
use Rattle.xf_batch.specs.Shown.{threads_shown}

-- the lines by thread, and the counts over all threads, are those of the phase so far
pub record Gathers (workers : ℕ) (s : Gather) (g : Gathered) : Type 0 where
  pub threads : threads_shown s.threads.items ≡ threads_of workers g.calls
  pub worker : s.worker ≡ g.worker
  pub calls : s.calls ≡ length g.calls
  pub lists : s.lists ≡ count_by (λ c. is_list_line c.line) g.calls

-- by its effect, what line n leaves, whether the phase goes on, and its fault, want of memory aside
abbrev pub Puts : ℕ → ℕ → Gathered → Effect → Gather → Result Bool PhaseFault → Type 0
Puts workers n g (GoesOn more) s (Ok on) = (on ≡ true) × Gathers workers s more
Puts workers n g Ends s (Ok on) = (on ≡ false) × Gathers workers s g
Puts workers n g (IsBad why) s (Ok on) = ⊥
Puts workers n g effect s (Err (fault.Bad line why)) = (line ≡ n) × (effect ≡ IsBad why)
Puts workers n g effect s (Err fault.ReadFault) = ⊥
Puts workers n g effect s (Err fault.NoMemory) = Unit {0}
