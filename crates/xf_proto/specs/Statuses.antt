-- The statuses of slots: 0 is free, 1 listed, and one from 2 on retired: it is one more than the generation was then.
use Rattle.std.specs.Prelude.{ℕ, zero, suc, ◌+◌, nat_lt, ◌&&◌, ◌||◌, Bool, true, if◌then◌else◌, List, length, ◌==◌, slice_index}
use Rattle.std.specs.List.{list_any}
use Rattle.xf_views.specs.declared.hand.Hand.{Hand}
use Rattle.xf_views.specs.Hands.{loaded_since}
use Rattle.xf_proto.specs.ProtocolState.{ProtocolState}

-- one of these pin words is that seat's, and was 0 or later than the retirement
abbrev pub is_clear : ℕ → List (ℕ × ℕ) → ℕ → Bool
is_clear r pins k = list_any (λ p. (p.0 == k) && ((p.1 == 0) || nat_lt r p.1)) pins

-- so is one of each seat below n
abbrev pub are_clear : ℕ → List (ℕ × ℕ) → ℕ → Bool
are_clear r pins zero = true
are_clear r pins (suc n) = is_clear r pins n && are_clear r pins n

-- a status becomes another: a free slot is listed; a listed one is retired now; a retired one is listed where the pin word of
-- every seat, loaded in this turn and since the retirement, was 0 or later than it
abbrev pub may_become : ProtocolState → Hand → ℕ → ℕ → ℕ → Bool
may_become p h slot zero word = word == 1
may_become p h slot (suc zero) word = word == p.numbers.generation + 1
may_become p h slot (suc (suc r)) word = (word == 1) && are_clear (r + 2) (loaded_since slot h) (length p.seats)

-- a status is stored by this rule, any other word freely
abbrev pub may_store : ProtocolState → Hand → ℕ → ℕ → Bool
may_store p h place word = if nat_lt place (length p.turns) then may_become p h place (slice_index p.words place) word else true
