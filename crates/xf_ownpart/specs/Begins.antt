-- The own part at the beginning.
use Rattle.std.specs.Prelude.{◌≡◌, ℕ, List, [], Option}
use mathlib.Core.Option.{some}
use lib.ListN.{get_elem?}
use Rattle.xf_types.specs.declared.state.Sa.{Sa}
use Rattle.xf_types.specs.Machine.{Machine}
use Rattle.xf_types.specs.Standing.{Standing}
use Rattle.xf_views.specs.declared.view.Start.{Start}
use Rattle.xf_views.specs.Starts.{first_views}
use Rattle.xf_ownpart.specs.OwnPart.{OwnPart, listed_at, standing_of}

-- where each value whose slot's turn is free stands for what the words list there, with the own part at the beginning
abbrev pub OwnBegins : (List ℕ → ℕ → Option (Sa × ℕ)) → Type 0
OwnBegins lists =
    (start : Machine) (base turns : List ℕ) (home : ℕ → Standing) (made : ℕ) (first : Start)
    → ((slot : ℕ) → get_elem? turns slot ≡ some 0 → home slot ≡ standing_of (listed_at lists start base slot))
    → OwnPart lists start base turns [] home (first_views first made)
