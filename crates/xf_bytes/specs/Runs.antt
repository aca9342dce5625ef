-- How many bytes from the first on are of a kind.
use Rattle.std.specs.Prelude.{ℕ, ◌+◌, Bool, ◌==◌, ◌&&◌, ◌||◌, not, nat_le, if◌then◌else◌, List, [], ◌∷◌}

-- a printable ASCII byte, a space or a tab, and no quote, comment's beginning or backslash
abbrev pub is_mild : ℕ → Bool
is_mild b =
    (b == 9)
    || (nat_le 32 b && (nat_le b 126 && (not (b == 34) && (not (b == 35) && (not (b == 39) && not (b == 92))))))

-- how many bytes from the first on are mild
abbrev pub mild_count : List ℕ → ℕ
mild_count [] = 0
mild_count (b ∷ bs) = if is_mild b then 1 + mild_count bs else 0

-- a byte that outside quotes goes on with its word: a mild one that parts no words
abbrev pub is_plain : ℕ → Bool
is_plain b =
    nat_le 33 b
    && (nat_le b 126 && (not (b == 34) && (not (b == 35) && (not (b == 39) && not (b == 92)))))

-- how many bytes from the first on do
abbrev pub plain_count : List ℕ → ℕ
plain_count [] = 0
plain_count (b ∷ bs) = if is_plain b then 1 + plain_count bs else 0

-- a byte other than a line feed
abbrev pub is_feedless : ℕ → Bool
is_feedless b = not (b == 10)

-- how many bytes from the first on are no line feed
abbrev pub feedless_count : List ℕ → ℕ
feedless_count [] = 0
feedless_count (b ∷ bs) = if b == 10 then 0 else 1 + feedless_count bs
