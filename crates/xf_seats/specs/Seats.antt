-- A seat splits off another one, and takes one in.
use Rattle.std.specs.Prelude.{ℕ, ◌+◌, nat_lt, false, if◌then◌else◌, List, [], ◌∷◌, ◌++◌, length}
use Rattle.std.proofs.Common.{set}
use Rattle.xf_types.specs.declared.call.Receipt.{Receipt}
use Rattle.xf_views.specs.declared.view.View.{View}
use Rattle.xf_views.specs.Starts.{first_view}

-- the seat after it split off another one
abbrev pub maker : View → View
maker v = record v { life = record v.life { next = v.life.next + 1 } }

-- the new seat, which did nothing yet and splits off none
abbrev pub split_off : View → View
split_off v = first_view v.life.start v.life.next 0

-- the longer one of two lists
abbrev pub longer : List Receipt → List Receipt → List Receipt
longer l m = if nat_lt (length l) (length m) then m else l

-- the seat after it took in another one: it has seen what either has, and keeps the other's receipts as a list of its own
abbrev pub taker : View → View → View
taker v w =
    record v {
      knows = record v.knows { seen = longer v.knows.seen w.knows.seen };
      life = record v.life { gathered = v.life.gathered ++ w.knows.mine ∷ [] };
    }

-- in the place of a seat that was taken in
abbrev pub nobody : View
nobody = record (first_view (record { seats = 0; policies = 0; states = 0; words = []; homes = [] }) 0 0) { here = false }

-- the views after seat i, which knows v, split off another one
abbrev pub split_views : List View → ℕ → View → List View
split_views views i v = set views i (maker v) ++ split_off v ∷ []

-- the views after seat i, which knows v, took in seat j, which knows w
abbrev pub joined_views : List View → ℕ → View → ℕ → View → List View
joined_views views i v j w = set (set views i (taker v w)) j nobody
