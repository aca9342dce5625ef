-- What good words say of slots, for every number of slots.
use Rattle.std.specs.Prelude.{◌≡◌, ℕ, ◌<◌, List, None}
use Rattle.xf_types.specs.IsMachine.{IsShownPart}
use Rattle.xf_invariant.specs.Meaning.{Told}
use Rattle.xf_ownpart.specs.Lists.{IsListing}
use Rattle.xf_retired.specs.Pools.{ArePools}
use Rattle.xf_stale.specs.StalePart.{AreShown}
use Rattle.xf_meaning.specs.Places.{id_place}
use Rattle.xf_meaning.specs.Good.{Good}
use Rattle.xf_meaning.specs.Tells.{lists, index_at}

pub record SlotLaws : Type 0 where
  -- each state is listed at one slot, with the time, and nothing else is
  pub listing : (p s : ℕ) → IsListing (Good p s) (lists p s)
  -- each record has a slot of its own list, and just these have the status 1; the capacities are the numbers of slots
  pub pools : (p s : ℕ) → ArePools (Good p s) (lists p s) (index_at p s) p s
  -- where a state's slot has it, the id of the state that is listed there stands at its place
  pub shows : (p s : ℕ) → AreShown (Good p s) (lists p s) (id_place p s) p s
  -- one shown part alone is told
  pub certain : (p s : ℕ) (image : List ℕ) (t u : Told) → IsShownPart t.shown → IsShownPart u.shown → Good p s image t → Good p s image u → t.shown ≡ u.shown
  -- the slots of policies list no state, whatever the words are
  pub of_policies : (p s : ℕ) (image : List ℕ) (slot : ℕ) → slot < p → lists p s image slot ≡ None
