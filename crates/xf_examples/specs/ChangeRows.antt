-- Worked rows on change ids: how often the policies and a bucket of states were changed.
use Rattle.std.specs.Prelude.{◌≡◌, ℕ, [], ◌∷◌, Some, true}
use Rattle.std.proofs.Common.{lit<}
use Rattle.xf_types.specs.declared.network.Addr.TheVariants.{V4}
use Rattle.xf_types.specs.declared.policy.Mode.TheVariants.{Transport}
use Rattle.xf_types.specs.declared.call.Call.TheVariants as call
use Rattle.xf_types.specs.declared.call.Reply.TheVariants as reply
use Rattle.xf_types.specs.StateList.{no_limits}
use Rattle.xf_examples.specs.Words.{usual, a5, unmarked, sa, sa_to_a2, state_to_a2, packet}
use Rattle.std.specs.Prelude.{List}
use Rattle.xf_types.specs.declared.state.Sa.{Sa}
use Rattle.xf_types.specs.declared.call.Receipt.{Receipt}
use Rattle.xf_types.specs.ChangeIds.{policy_id, bucket_id}
use Rattle.xf_types.specs.History.{IsLegalHistory}
use Rattle.xf_examples.specs.Words.{receipt, add_proto}
use Rattle.xf_examples.specs.ThresholdRows.{set_v4}

-- the bucket of a state is its reqid
abbrev bucket_of : Sa → ℕ
bucket_of x = x.spec.reqid

-- the first state is added, warns, is refreshed and expires, beside one of another bucket; a policy is added, and thresholds are
-- set twice
abbrev pub moves : List Receipt
moves =
    receipt 0 0 1 0 (add_proto 1) (reply.DoneIndex 9)
    ∷ receipt 1 0 2 0 (state_to_a2 (record no_limits { packet_soft = Some 0 })) (reply.DoneSid 1)
    ∷ receipt 2 0 3 0 (call.StateAdd (sa (V4 0) a5 4096 Transport 7 0 unmarked no_limits 0 (lit< tt))) (reply.DoneSid 2)
    ∷ receipt 3 0 4 0 (packet 1 (lit< tt) 0 true) (reply.Accepted 1 true)
    ∷ receipt 4 0 5 0 (call.PolicySet set_v4) reply.Done ∷ receipt 5 0 6 0 (call.PolicySet set_v4) reply.Done
    ∷ receipt 6 0 7 0 (call.StateUpdate (sa_to_a2 unmarked (record no_limits { packet_hard = Some 1 }))) (reply.DoneSid 1)
    ∷ receipt 7 0 8 0 (packet 2 (lit< tt) 0 true) reply.Expired ∷ []

pub record ChangeRows : Type 0 where
  pub legal : IsLegalHistory usual moves
  -- the policy, and each set of the thresholds, also to what they were
  pub policies : policy_id usual.shown moves ≡ 3
  -- of the first state: it is added, dying, refreshed, and removed
  pub bucket_0 : bucket_id bucket_of 0 usual.shown moves ≡ 4
  pub bucket_7 : bucket_id bucket_of 7 usual.shown moves ≡ 1
  pub bucket_8 : bucket_id bucket_of 8 usual.shown moves ≡ 0
