-- Worked rows on the indices and keys of policies, and on the room for them.
use Rattle.std.specs.Prelude.{◌≡◌, ℕ, [], ◌∷◌, None, refl}
use Rattle.xf_types.specs.declared.network.Dir.TheVariants.{In, Out}
use Rattle.xf_types.specs.declared.network.Ptype.TheVariants.{Main}
use Rattle.xf_types.specs.declared.policy.Action.TheVariants.{Allow}
use Rattle.xf_types.specs.declared.policy.PolicyKey.TheVariants as key
use Rattle.xf_types.specs.declared.call.Call.{Call}
use Rattle.xf_types.specs.declared.call.Call.TheVariants as call
use Rattle.xf_types.specs.declared.call.Reply.TheVariants as reply
use Rattle.xf_types.specs.Steps.{empty}
use Rattle.xf_examples.specs.Words.{replies, usual, ten, everything, unmarked, ten_to_lab, policy_to, add_proto}
use Rattle.xf_examples.specs.PolicyWords.{ten_one, outward, ten_at, counting_from}

-- a policy for this protocol with this index
abbrev indexed : ℕ → ℕ → Call
indexed proto index = call.PolicyAdd (policy_to (record ten_to_lab { proto = proto }) index)

pub record IndexRows : Type 0 where
  pub twice : replies usual (ten_at 10 ∷ ten_at 10 ∷ []) ≡ reply.DoneIndex 9 ∷ reply.PolicyExists 9 ∷ []
  pub room :
      replies (empty 1 1) (ten_at 10 ∷ call.PolicyAdd (outward ten_one everything refl 5 Main Allow) ∷ [])
      ≡ reply.DoneIndex 9 ∷ reply.Full 1 0 ∷ []
  pub room_for_two : replies (empty 2 2) (add_proto 1 ∷ add_proto 2 ∷ add_proto 3 ∷ []) ≡ reply.DoneIndex 9 ∷ reply.DoneIndex 17 ∷ reply.Full 2 0 ∷ []
  -- the index counter wraps, and a given index leaves it
  pub wrap :
      replies (counting_from 536870911)
      (call.PolicyAdd (policy_to ten_to_lab 17) ∷ call.PolicyUpdate (policy_to (record ten_to_lab { proto = 1 }) 0)
      ∷ call.PolicyAdd (policy_to (record ten_to_lab { proto = 2 }) 17)
      ∷ call.PolicyAdd (policy_to (record ten_to_lab { proto = 3 }) 0) ∷ [])
      ≡ reply.DoneIndex 17 ∷ reply.DoneIndex 4294967289 ∷ reply.DoneIndex 9 ∷ reply.DoneIndex 25 ∷ []
  -- a given index that is free is taken, one that isn't free is not
  pub given :
      replies usual (indexed 1 33 ∷ indexed 2 33 ∷ indexed 3 17 ∷ indexed 4 0 ∷ [])
      ≡ reply.DoneIndex 33 ∷ reply.DoneIndex 9 ∷ reply.DoneIndex 17 ∷ reply.DoneIndex 25 ∷ []
  -- an index of another direction is refused before the policy is looked for
  pub wrong_direction :
      replies usual
      (indexed 1 0 ∷ indexed 1 8 ∷ indexed 1 17 ∷ call.PolicyUpdate (policy_to (record ten_to_lab { proto = 1 }) 10) ∷ [])
      ≡ reply.DoneIndex 9 ∷ reply.Invalid ∷ reply.PolicyExists 9 ∷ reply.Invalid ∷ []
  -- so is a key by an index of another direction
  pub wrong_key :
      replies usual
      (indexed 1 0 ∷ call.PolicyDelete (key.Index Out 8) ∷ call.PolicyDelete (key.Index In 9) ∷ call.PolicyDelete (key.Index Out 17)
      ∷ call.PolicyDelete (key.Index Out 9) ∷ call.PolicyDelete (key.Index Out 9) ∷ [])
      ≡ reply.DoneIndex 9 ∷ reply.Invalid ∷ reply.Invalid ∷ reply.NoEntry ∷ reply.DoneIndex 9 ∷ reply.NoEntry ∷ []
  -- an update at capacity keeps the old index, and adds no other policy
  pub update_at_capacity :
      replies (empty 1 1)
      (add_proto 1 ∷ call.PolicyUpdate (record (policy_to (record ten_to_lab { proto = 1 }) 33) { priority = 7 })
      ∷ call.PolicyUpdate (policy_to ten_to_lab 0) ∷ call.PolicyGet (key.Index Out 8) ∷ call.PolicyGet (key.Index In 0) ∷ [])
      ≡ reply.DoneIndex 9 ∷ reply.DoneIndex 9 ∷ reply.Full 1 0 ∷ reply.Invalid ∷ reply.NoEntry ∷ []
  -- a policy that isn't listed is not deleted
  pub not_listed :
      replies usual
      (call.PolicyDelete (key.Same Out Main (record { src = ten; dst = everything; proto = 0; sport = None; dport = None; facts = record { one_family = refl } }) unmarked 0)
      ∷ call.PolicyGet (key.Index Out 9) ∷ [])
      ≡ reply.NoEntry ∷ reply.NoEntry ∷ []
