-- What the program is told that was given words that are no command.
use Rattle.std.specs.Prelude.{ℕ, List, [], ◌∷◌, ◌++◌, codes}

-- the usage line
unfoldable pub usage_text : List ℕ
usage_text = codes "usage: xfrm one | run --workers N [--tries N] [--again] | check | gen --seed N [--workers N]" ++ 10 ∷ []
