-- What equal change ids say: where as many moves are counted at two moments of a legal history, nothing was changed between them.
use Rattle.std.specs.Prelude.{◌≡◌, ℕ, ◌==◌, List, ◌++◌, filter}
use Rattle.xf_types.specs.declared.state.Sa.{Sa}
use Rattle.xf_types.specs.declared.call.Receipt.{Receipt}
use Rattle.xf_types.specs.Machine.{Machine}
use Rattle.xf_types.specs.Moves.{moves_of}
use Rattle.xf_types.specs.History.{IsLegalHistory, machine_of}
use Rattle.xf_types.specs.ChangeIds.{policy_id, bucket_id}
use Rattle.xf_types.specs.IsMachine.{IsMachine}
use Rattle.xf_laws.specs.ChangeLaws.{HaveSamePolicies}

-- a state's bucket rests on its destination and reqid alone
abbrev pub IsBucketOf : (Sa → ℕ) → Type 0
IsBucketOf bucket_of = (x y : Sa) → x.spec.dst ≡ y.spec.dst → x.spec.reqid ≡ y.spec.reqid → bucket_of x ≡ bucket_of y

-- a history that is legal to its end, and an earlier moment of it
pub record IdLaws : Type 0 where
  -- with the same policy id has the same policies and thresholds
  pub policies : (m : Machine) (earlier later : List Receipt) → IsMachine m → IsLegalHistory m (earlier ++ later)
      → policy_id m.shown (moves_of (earlier ++ later)) ≡ policy_id m.shown (moves_of earlier)
      → HaveSamePolicies (machine_of m earlier).shown (machine_of m (earlier ++ later)).shown
  -- and with the same id of a bucket the same records in it, in the same order
  pub states : (m : Machine) (earlier later : List Receipt) (bucket_of : Sa → ℕ) (bucket : ℕ) → IsMachine m
      → IsLegalHistory m (earlier ++ later) → IsBucketOf bucket_of
      → bucket_id bucket_of bucket m.shown (moves_of (earlier ++ later)) ≡ bucket_id bucket_of bucket m.shown (moves_of earlier)
      → filter (λ x. bucket_of x == bucket) (machine_of m (earlier ++ later)).shown.states
      ≡ filter (λ x. bucket_of x == bucket) (machine_of m earlier).shown.states
