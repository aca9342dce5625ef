-- When words, values and two pools of slots make a database.
use Rattle.std.specs.Prelude.{◌≡◌, ℕ, true, List, length}
use Rattle.xf_image.specs.Readings.{listed_in}
use Rattle.xf_spd.specs.Slots as policies
use Rattle.xf_sad.specs.Slots as states
use Rattle.xf_rows.specs.declared.layout.Layout.{Layout}
use Rattle.xf_rows.specs.Layouts.{Fits}
use Rattle.xf_rows.specs.Readings.{machine_in}
use Rattle.xf_rows.specs.Stands.{Stands}
use Rattle.xf_rows.specs.Values.{Beside}

-- Words and values stand for the machine that they tell, all turns are held, and each pool has the slots that its list leaves.
pub record IsWhole (layout : Layout) (image : List ℕ) (b : Beside)
    (policies_all policies_out : ℕ) (policy_gives policy_takes : ℕ → Type 0)
    (states_all states_out : ℕ) (state_gives state_takes : ℕ → Type 0) : Type 0 where
  pub fits : Fits layout (length image)
  pub turns : (slot : ℕ) → b.held slot ≡ true
  pub stands : Stands layout image b (machine_in layout image b.values)
  pub policy_slots : policies.PoolFits policies_all policies_out policy_gives policy_takes layout.policies.slots (listed_in layout.policies image)
  pub state_slots : states.PoolFits states_all states_out state_gives state_takes layout.states.slots (states.listed_in layout.states image)
