-- What hits tell.
use Rattle.std.specs.Prelude.{◌≡◌, ◌↔◌, ℕ, Bool, true, ◌&&◌, ◌||◌, List, None, find}
use Rattle.xf_types.specs.declared.policy.Policy.{Policy}
use Rattle.xf_types.specs.PolicyList.{IsPolicyOrder}
use Rattle.xf_index.specs.Indexes.{records_in}
use Rattle.xf_index.specs.Finds.{found_in, slot_found}
use Rattle.xf_image.specs.declared.area.PolicyArea.{PolicyArea}
use Rattle.xf_image.specs.Policies.{ColumnsStand}
use Rattle.xf_exact.specs.Hits.{first_of, better, hit_at, policy_hit}

pub record HitLaws : Type 0 where
  -- the words of the first entry's slot tell it
  pub hit : (a : PolicyArea) (image : List ℕ) (test : Policy → Bool) (entries : List (ℕ × Policy)) → ColumnsStand a image entries
      → hit_at a image (slot_found (found_in test entries)) ≡ first_of test entries
  -- its policy is the first that passes
  pub policy : (a : PolicyArea) (image : List ℕ) (test : Policy → Bool) (entries : List (ℕ × Policy)) → ColumnsStand a image entries
      → policy_hit a image (first_of test entries) ≡ find test (records_in entries)
  -- there is none exactly where no policy passes
  pub none : (test : Policy → Bool) (entries : List (ℕ × Policy)) → (first_of test entries ≡ None) ↔ (find test (records_in entries) ≡ None)
  -- where of two parts one has each policy that passes, the better of their first ones is the first of the list
  pub better_is : (test one other : Policy → Bool) (entries : List (ℕ × Policy)) → ((p : Policy) → test p ≡ true → (one p || other p) ≡ true)
      → IsPolicyOrder (records_in entries)
      → better (first_of (λ p. one p && test p) entries) (first_of (λ p. other p && test p) entries) ≡ first_of test entries
