-- Changes of the policies alone.
use Rattle.std.specs.Prelude.{◌≡◌, ⊤}
use Rattle.xf_types.specs.Changes.{Change, Stays, InPlace, LeaveThen}
use Rattle.xf_types.specs.Machine.{Shown}
use Rattle.xf_sadimage.specs.States.{AlikeInStates}

-- the states, their counters and the time are as before
abbrev pub OnlyPolicies : Shown → Change → Type 0
OnlyPolicies s Stays = ⊤
OnlyPolicies s (InPlace shown) = AlikeInStates s shown × (shown.time ≡ s.time)
OnlyPolicies s (LeaveThen shown leaves new) = ⊥
