-- One dead value more.
use Rattle.std.proofs.Common.{ℕ, ◌≡◌, ◌+◌, [], ◌∷◌, ◌++◌}
use Rattle.std.proofs.lemmas.List.{replicate-append-replicate}
use Rattle.xf_local.specs.View.{Dead}
use Rattle.xf_parts.specs.Held.{all_dead}

pub one_more : (n : ℕ) → all_dead n ++ (Dead ∷ []) ≡ all_dead (n + 1)
one_more n = replicate-append-replicate n 1 Dead
