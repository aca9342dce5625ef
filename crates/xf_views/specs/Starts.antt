-- The seats before their first steps.
use Rattle.std.specs.Prelude.{ℕ, zero, suc, ◌≤◌, true, false, List, [], ◌∷◌, ◌++◌}
use Rattle.xf_views.specs.declared.view.View.{View}
use Rattle.xf_views.specs.declared.view.Start.{Start}
use Rattle.xf_views.specs.Hands.{first_hand}
use Rattle.xf_views.specs.Log.{Numbers}
use Rattle.xf_views.specs.TurnPart.{TurnPart}

-- what seat k knows before its first step; the last argument is the number of the next seat that it splits off, or 0
abbrev pub first_view : Start → ℕ → ℕ → View
first_view start k next =
    record {
      here = true;
      worker = k;
      hand = first_hand;
      knows = record { count = 0; seen = []; mine = []; anew = false; overtaken = [] };
      image = record { words = []; kept = []; loads = [] };
      pins = record { shows = []; fresh = [] };
      own = record { turns = [] };
      life = record { start = start; next = next; gathered = [] };
    }

-- the first seats, of which each is there from the beginning
abbrev pub first_views : Start → ℕ → List View
first_views start zero = []
first_views start (suc n) = first_views start n ++ first_view start n 0 ∷ []

-- all numbers are 0
abbrev pub first_numbers : Numbers
first_numbers = record { ticket = 0; serving = 0; generation = 0; draw = 0 }

-- the turn part holds at the beginning
abbrev pub TurnBegins : Type 0
TurnBegins =
    (most made : ℕ) (start : Start) → 1 ≤ made → made ≤ 16
    → TurnPart most made first_numbers [] [] (first_views start made)
