-- Zeros stand for the empty list.
use Rattle.std.proofs.Common.{◌≡◌, ℕ, zero, suc, ◌+◌, [], Option, refl, ap, rules, slice_index}
use Rattle.xf_types.specs.declared.policy.Policy.{Policy}
use Rattle.xf_types.specs.Steps.{empty_shown}
use Rattle.xf_cells.specs.Words.{zeros}
use Rattle.xf_chain.specs.declared.family.Family.{Family}
use Rattle.xf_chain.specs.Chains.{slot_of}
use Rattle.xf_index.specs.Indexes.{Indexed}
use Rattle.xf_image.specs.declared.area.PolicyArea.{PolicyArea}
use Rattle.xf_image.specs.Layout.{order_of, back_of, exact_of, indices_of, next_index_place, next_number_place, thresholds_place, count_place}
use Rattle.xf_image.specs.ExactKeys.{exact_key}
use Rattle.xf_image.specs.Policies.{everyone, index_key, PoliciesStand}

zero_at : (n q : ℕ) → slice_index (zeros n) q ≡ 0
zero_at zero q = refl
zero_at (suc n) zero = refl
zero_at (suc n) (suc q) = zero_at n q

-- no chain passes a slot in words of zeros
pub no_chain : (b : Family) (n : ℕ) (key : Policy → Option ℕ) → Indexed b (zeros n) key []
no_chain b n key = record {
  chains = λ number h. record {
    path = ap (λ w. slot_of b.slots w) (zero_at n (b.heads + number));
    apart = search rules;
    within = search rules;
  };
}

pub zeros_stand : (a : PolicyArea) (n max_states : ℕ) → PoliciesStand a (zeros n) (empty_shown a.slots max_states) []
zeros_stand a n max_states = record {
  listed = refl;
  links = record {
    order = no_chain (order_of a) n everyone;
    back = no_chain (back_of a) n everyone;
    exact = no_chain (exact_of a) n (exact_key (32, 32) (128, 128));
    indices = no_chain (indices_of a) n index_key;
  };
  columns = record { priorities = search rules; numbers = search rules; records = search rules };
  counters = record {
    next_index = ap (λ w. w + 1) (zero_at n (next_index_place a));
    next_number = ap (λ w. w + 1) (zero_at n (next_number_place a));
    local4 = ap (λ w. w + 32) (zero_at n (thresholds_place a));
    remote4 = ap (λ w. w + 32) (zero_at n (thresholds_place a + 1));
    local6 = ap (λ w. w + 128) (zero_at n (thresholds_place a + 2));
    remote6 = ap (λ w. w + 128) (zero_at n (thresholds_place a + 3));
    count = zero_at n (count_place a);
  };
  room = refl;
}
