-- How many events a tick has to tell.
use Rattle.std.specs.Prelude.{◌≡◌, ℕ, List, length, filter_map}
use Rattle.xf_types.specs.declared.policy.Policy.{Policy}
use Rattle.xf_types.specs.declared.state.Sa.{Sa}
use Rattle.xf_types.specs.Machine.{Shown}
use Rattle.xf_types.specs.TickRules.{policy_event}
use Rattle.xf_index.specs.Indexes.{slots_in}
use Rattle.xf_inexact.specs.Whole.{SpdStands}
use Rattle.xf_sadimage.specs.States.{StatesStand}
use Rattle.xf_rows.specs.declared.layout.Layout.{Layout}
use Rattle.xf_rows.specs.Values.{Beside}
use Rattle.xf_ticking.specs.Told.{told}

-- Whatever policies the words stand for, they have so many events at this time.
pub record CountsPolicies (layout : Layout) (words : List ℕ) (now count : ℕ) : Type 0 where
  pub is : (s : Shown) (es : List (ℕ × Policy)) → SpdStands layout.policies words s es → count ≡ length (filter_map (policy_event now) s.policies)

-- Whatever states the words stand for, the values of their slots report so many events at this time.
pub record CountsStates (layout : Layout) (words : List ℕ) (b : Beside) (now count : ℕ) : Type 0 where
  pub is : (s : Shown) (es : List (ℕ × Sa)) → StatesStand layout.states words s es → count ≡ length (told now b (slots_in es))
