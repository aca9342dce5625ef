-- All numbers that a state accepted, and what its window shows of them.
use Rattle.std.specs.Prelude.{◌≡◌, ℕ, List, [], ◌∷◌, ◌++◌}
use Rattle.xf_replay.specs.declared.window.Check.TheVariants.{Fresh}
use Rattle.xf_replay.specs.Replay.{is_among, top, replay_check, downwards, in_window, accepted_to, accepted_with}

-- the numbers of a list as far as the window tells: one list for all lists that are alike
abbrev pub normal_form : ℕ → List ℕ → List ℕ
normal_form window numbers = in_window window (is_among numbers) (top numbers)

-- the numbers that count as accepted: these and 1 to start
abbrev pub ever_accepted : ℕ → List ℕ → List ℕ
ever_accepted start numbers = numbers ++ downwards start start

-- what a window shows that began with 1 to start and was given these numbers, the latest first
abbrev pub accepted_after : ℕ → ℕ → List ℕ → List ℕ
accepted_after window start [] = accepted_to window start
accepted_after window start (n ∷ earlier) = accepted_with window (accepted_after window start earlier) n

-- each of these numbers, the latest first, was fresh when it was accepted
abbrev pub AreFresh : ℕ → ℕ → List ℕ → Type 0
AreFresh window start [] = Unit {0}
AreFresh window start (n ∷ earlier) =
    (replay_check window (accepted_after window start earlier) n ≡ Fresh) × AreFresh window start earlier
