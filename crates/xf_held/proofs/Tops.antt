-- The greatest accepted number after one more.
use Rattle.std.proofs.Common.{◌≡◌, ℕ, max, List, ◌||◌}
use Rattle.std.specs.Prelude.{◌==◌}
use Rattle.xf_replay.specs.Replay.{is_among, top, accepted_with}
use Rattle.xf_replay.proofs.Sets.{IsTop-list, IsTop-with, top-in_window}

pub top-accepted_with : (size : ℕ) (numbers : List ℕ) (n : ℕ) → top (accepted_with size numbers n) ≡ max n (top numbers)
top-accepted_with size numbers n =
    top-in_window size (max n (top numbers)) (λ m. (m == n) || is_among numbers m)
    (IsTop-with (is_among numbers) (top numbers) n (IsTop-list numbers))
