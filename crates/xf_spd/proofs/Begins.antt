-- The empty machine.
use Rattle.std.proofs.Common.{◌≡◌, ℕ, ◌%◌, ◌<◌, ◌≤◌, [], Some, refl, subst, arith, lit<, lit≤, AllPairs}
use Rattle.std.specs.Prelude.{IsTrue}
use Rattle.std.specs.Option.{ForSome}
use Rattle.std.proofs.lemmas.List.Elements.{All-nil}
use Rattle.xf_types.specs.declared.policy.Policy.{Policy}
use Rattle.xf_types.specs.PolicyList.{comes_after, is_same}
use Rattle.xf_types.specs.Same.{dir_number}
use Rattle.xf_types.specs.Steps.{empty_shown}
use Rattle.xf_spd.specs.Changes.{IsAt}
use Rattle.xf_listing.proofs.Settled.{same_lens}

no_pairs : {A : Type 0} (R : A → A → Type 0) → AllPairs R []
no_pairs R = λ i j d lt within. absurd (omega (arith, within))

for_some : (P : ℕ × ℕ → Type 0) (x : ℕ × ℕ) → P x → ForSome (Some x) P
for_some P x p y e = subst P (same_lens x y e) p

pub empty_at : (max_policies max_states : ℕ) → max_policies ≤ 4096 → max_states ≤ 8192 → IsAt (empty_shown max_policies max_states) 0
empty_at max_policies max_states few less = record {
  number = lit< tt;
  policies = record {
    ordered = no_pairs (λ (p q : Policy). IsTrue (comes_after q p));
    keys = no_pairs (λ (p q : Policy). IsTrue (is_same p.spec q.spec) → ⊥);
    indices = no_pairs (λ (p q : Policy). p.index ≡ q.index → ⊥);
    directions = All-nil (λ (p : Policy). p.index % 8 ≡ dir_number p.spec.dir);
    numbers = no_pairs (λ (p q : Policy). p.number ≡ q.number → ⊥);
    numbers_given = All-nil (λ (p : Policy). p.number < 1);
  };
  room = record { policies = omega arith; states = omega arith; max_policies = few; max_states = less };
  range = record {
    index_counter = (lit< tt, lit≤ tt);
    seq_counter = (lit< tt, lit≤ tt);
    thresholds = record {
      local4 = for_some (λ (lens : ℕ × ℕ). lens.0 ≤ 32) (32, 32) (lit≤ tt);
      remote4 = for_some (λ (lens : ℕ × ℕ). lens.1 ≤ 32) (32, 32) (lit≤ tt);
      local6 = for_some (λ (lens : ℕ × ℕ). lens.0 ≤ 128) (128, 128) (lit≤ tt);
      remote6 = for_some (λ (lens : ℕ × ℕ). lens.1 ≤ 128) (128, 128) (lit≤ tt);
    };
  };
  time = refl;
}
