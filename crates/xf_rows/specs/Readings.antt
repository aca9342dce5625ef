-- The machine that words and values tell, whatever they are.
use Rattle.std.specs.Prelude.{ℕ, ◌+◌, List, filter_map, get_or, slice_index}
use Rattle.xf_types.specs.declared.policy.Policy.{Policy}
use Rattle.xf_types.specs.declared.state.Sa.{Sa}
use Rattle.xf_types.specs.Machine.{Machine, Shown, Own}
use Rattle.xf_chain.specs.Chains.{slots_of}
use Rattle.xf_chain.specs.Families.{chain_at}
use Rattle.xf_image.specs.declared.area.PolicyArea.{PolicyArea}
use Rattle.xf_image.specs.Layout as policies
use Rattle.xf_image.specs.Readings.{listed_in, hthresh4_in, hthresh6_in}
use Rattle.xf_sadidx.specs.declared.area.StateArea.{StateArea}
use Rattle.xf_sadidx.specs.Layout as states
use Rattle.xf_local.specs.View.{LocalView, Dead, own_part}
use Rattle.xf_rows.specs.declared.layout.Layout.{Layout}

-- the policies in the slots of the chain of all
abbrev pub policies_told : PolicyArea → List ℕ → List Policy
policies_told a image = filter_map (λ slot. policies.record_at a image slot) (listed_in a image)

-- the slots of all states, in the order of adding
abbrev pub state_slots : StateArea → List ℕ → List ℕ
state_slots a image = slots_of (chain_at (states.order_of a) 0) image

-- the states there
abbrev pub states_told : StateArea → List ℕ → List Sa
states_told a image = filter_map (λ slot. states.record_at a image slot) (state_slots a image)

-- the own parts that the values there have
abbrev pub own_told : StateArea → List ℕ → List LocalView → List Own
own_told a image values = filter_map (λ slot. own_part (get_or values slot Dead)) (state_slots a image)

-- what the words show
abbrev pub shown_in : Layout → List ℕ → Shown
shown_in layout image =
    record {
      policies = policies_told layout.policies image;
      states = states_told layout.states image;
      next_index = slice_index image (policies.next_index_place layout.policies) + 1;
      next_seq = slice_index image (states.next_seq_place layout.states) + 1;
      next_sid = slice_index image (states.next_sid_place layout.states) + 1;
      next_number = slice_index image (policies.next_number_place layout.policies) + 1;
      hthresh4 = hthresh4_in layout.policies image;
      hthresh6 = hthresh6_in layout.policies image;
      time = slice_index image layout.clock;
      max_policies = layout.policies.slots;
      max_states = layout.states.slots;
    }

-- the machine
abbrev pub machine_in : Layout → List ℕ → List LocalView → Machine
machine_in layout image values = record { shown = shown_in layout image; own = own_told layout.states image values }
