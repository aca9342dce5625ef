-- Zeros stand for the empty list.
use Rattle.std.proofs.Common.{◌≡◌, ℕ, zero, suc, ◌+◌, [], Option, refl, ap, rules, slice_index, arith}
use Rattle.xf_types.specs.declared.state.Sa.{Sa}
use Rattle.xf_types.specs.Steps.{empty_shown}
use Rattle.xf_cells.specs.Words.{zeros}
use Rattle.xf_chain.specs.declared.family.Family.{Family}
use Rattle.xf_chain.specs.Chains.{slot_of}
use Rattle.xf_index.specs.Indexes.{Indexed}
use Rattle.xf_sadidx.specs.declared.area.StateArea.{StateArea}
use Rattle.xf_sadidx.specs.Layout.{next_seq_place, next_sid_place, count_place, order_of, back_of, chains_of, doubling_in}
use Rattle.xf_sadidx.specs.Standing.{head_by}
use Rattle.xf_sadimage.specs.States.{everyone, StatesStand}

zero_at : (n q : ℕ) → slice_index (zeros n) q ≡ 0
zero_at zero q = refl
zero_at (suc n) zero = refl
zero_at (suc n) (suc q) = zero_at n q

no_chain : (family : Family) (n : ℕ) (key : Sa → Option ℕ) → Indexed family (zeros n) key []
no_chain family n key = record {
  chains = λ number h. record {
    path = ap (λ w. slot_of family.slots w) (zero_at n (family.heads + number));
    apart = search rules;
    within = search rules;
  };
}

pub zeros_stand : (a : StateArea) (n max_policies : ℕ) → StatesStand a (zeros n) (empty_shown max_policies a.slots) []
zeros_stand a n max_policies = record {
  listed = refl;
  linked = record { order = no_chain (order_of a) n everyone; back = no_chain (back_of a) n everyone };
  chained = record {
    indexed = record { chains = λ kind. no_chain (chains_of a kind) n (head_by (doubling_in a (zeros n)).half (doubling_in a (zeros n)).moved kind) };
    records = search rules;
    apart = search rules;
    within = search rules;
  };
  heads = record { heads = λ l. omega arith; left = λ l. omega arith };
  counters = record {
    next_seq = ap (λ w. w + 1) (zero_at n (next_seq_place a));
    next_sid = ap (λ w. w + 1) (zero_at n (next_sid_place a));
    count = zero_at n (count_place a);
  };
  room = refl;
}
