use Rattle.std.proofs.Common.{◌≡◌, ◌≤◌, drop, length}
use Rattle.xf_types.specs.Resolution.{resolution}
use Rattle.xf_paths.specs.Stage.{states_of}
use Rattle.xf_paths.proofs.Walks.{led}
use Rattle.xf_paths.proofs.walk.resolve.Given as goal

-- what all templates come to is what those from the place on come to, behind the hops so far
abbrev pub invariant-loop-place : goal.invariant-loop-place
invariant-loop-place l = record {
  room : length l.hops.items ≤ l.place;
  so_far : resolution (states_of l.states) l.flow l.templates 0 l.flow.src l.flow.dst
      ≡ led l.hops.items (resolution (states_of l.states) l.flow (drop l.place l.templates) l.place l.src l.dst);
}
