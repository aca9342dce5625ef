-- What an image tells of a slot of the table. Those of policies come first, so the slot of a state is behind them.
use Rattle.std.specs.Prelude.{ℕ, ◌-◌, List, Option, slice_index}
use Rattle.std.specs.Option.{option_map}
use Rattle.xf_types.specs.declared.policy.Policy.{Policy}
use Rattle.xf_types.specs.declared.state.Sa.{Sa}
use Rattle.xf_image.specs.Layout as policies
use Rattle.xf_sadidx.specs.Layout as states
use Rattle.xf_meaning.specs.Places.{policies_of, states_of, layout_of}
use Rattle.xf_meaning.specs.Marks.{told_at}

-- the state whose record stands there, and the time
abbrev pub state_there : ℕ → ℕ → List ℕ → ℕ → Option (Sa × ℕ)
state_there p s image slot =
    option_map (λ (x : Sa). (x, slice_index image (layout_of p s).clock)) (states.record_at (states_of p s) image (slot - p))

-- the index of the policy whose record stands there
abbrev pub index_there : ℕ → ℕ → List ℕ → ℕ → Option ℕ
index_there p s image slot = option_map (λ (x : Policy). x.index) (policies.record_at (policies_of p s) image slot)

-- the state that is listed there, and the time
abbrev pub lists : ℕ → ℕ → List ℕ → ℕ → Option (Sa × ℕ)
lists p s image slot = told_at p s image (state_there p s image) slot

-- the index of the policy that is listed there
abbrev pub index_at : ℕ → ℕ → List ℕ → ℕ → Option ℕ
index_at p s image slot = told_at 0 p image (index_there p s image) slot
