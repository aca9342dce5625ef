-- How far the numbers that a machine gives have grown since the start.
use Rattle.std.specs.Prelude.{ℕ, ◌+◌, ◌^◌, ◌≤◌, List, All}
use Rattle.xf_invariant.specs.Meaning.{Told, Opens}

-- no greater number than this was given, to a policy, to a state or to a change
pub record IsWithin (most : ℕ) (t : Told) : Type 0 where
  pub numbers : t.shown.next_number ≤ most
  pub sids : t.shown.next_sid ≤ most
  pub of_policies : t.ids.of_policies ≤ most
  pub of_buckets : All (λ id. id ≤ most) t.ids.of_buckets

-- they grew by at most one for each number that may be drawn
pub record HasGrown (good : List ℕ → Told → Type 0) (start : List ℕ) (t : Told) : Type 0 where
  pub first : Told
  pub opens : Opens good start first
  pub within : (most : ℕ) → IsWithin most first → IsWithin (most + 2 ^ 45) t
