-- Worked rows on policies: the order of the list, the first policy of a flow, and time.
use Rattle.std.specs.Prelude.{◌≡◌, [], ◌∷◌, refl}
use Rattle.xf_types.specs.declared.network.Ptype.TheVariants.{Main, Sub}
use Rattle.xf_types.specs.declared.policy.Action.TheVariants.{Allow, Block}
use Rattle.xf_types.specs.declared.call.Call.{Call}
use Rattle.xf_types.specs.declared.call.Call.TheVariants as call
use Rattle.xf_types.specs.declared.call.Event.TheVariants.{PolicySoft, PolicyExpired}
use Rattle.xf_types.specs.declared.call.Reply.TheVariants as reply
use Rattle.xf_types.specs.StateList.{no_limits}
use Rattle.xf_examples.specs.Words.{replies, usual, ten, everything, ten_to_lab, policy_with, policy_to}
use Rattle.xf_examples.specs.PolicyWords.{ten_one, host, server, outward, asked, ten_at}

-- a policy of ptype sub for another flow
abbrev other_sub : Call
other_sub = call.PolicyAdd (record (policy_to ten_to_lab 0) { ptype = Sub; sel = record ten_to_lab { proto = 6 } })

pub record PolicyRows : Type 0 where
  pub first_flow : replies usual (ten_at 10 ∷ asked ∷ []) ≡ reply.DoneIndex 9 ∷ reply.FlowAllow 9 [] ∷ []
  pub equal_priorities :
      replies usual
      (ten_at 5 ∷ call.PolicyAdd (outward ten_one everything refl 5 Main Allow) ∷ asked
      ∷ call.PolicyUpdate (outward ten everything refl 5 Main Allow) ∷ asked ∷ [])
      ≡ reply.DoneIndex 9 ∷ reply.DoneIndex 17 ∷ reply.FlowAllow 9 [] ∷ reply.DoneIndex 9 ∷ reply.FlowAllow 17 [] ∷ []
  pub exact_later :
      replies usual (call.PolicyAdd (outward host server refl 20 Main Block) ∷ ten_at 10 ∷ asked ∷ [])
      ≡ reply.DoneIndex 9 ∷ reply.DoneIndex 17 ∷ reply.FlowAllow 17 [] ∷ []
  pub exact_first :
      replies usual (call.PolicyAdd (outward host server refl 20 Main Block) ∷ ten_at 30 ∷ asked ∷ [])
      ≡ reply.DoneIndex 9 ∷ reply.DoneIndex 17 ∷ reply.FlowBlock 9 ∷ []
  pub sub_first :
      replies usual (ten_at 0 ∷ call.PolicyAdd (outward ten everything refl 100 Sub Allow) ∷ asked ∷ [])
      ≡ reply.DoneIndex 9 ∷ reply.DoneIndex 17 ∷ reply.FlowAllow 17 [] ∷ []
  -- and where no sub policy applies a main one does
  pub sub_for_another :
      replies usual (other_sub ∷ ten_at 7 ∷ asked ∷ []) ≡ reply.DoneIndex 9 ∷ reply.DoneIndex 17 ∷ reply.FlowAllow 17 [] ∷ []
  pub no_policy : replies usual (asked ∷ other_sub ∷ asked ∷ []) ≡ reply.FlowNone ∷ reply.DoneIndex 9 ∷ reply.FlowNone ∷ []
  -- a policy warns once, and expires
  pub times :
      replies usual
      (call.PolicyAdd (policy_with [] 0 (record no_limits { time_soft = 5; time_hard = 9 })) ∷ call.Tick 5 ∷ call.Tick 4
      ∷ call.Tick 9 ∷ call.PolicyCount ∷ [])
      ≡ reply.DoneIndex 9 ∷ reply.Ticked 5 (PolicySoft 9 ∷ []) ∷ reply.Ticked 5 [] ∷ reply.Ticked 9 (PolicyExpired 9 ∷ [])
      ∷ reply.PolicyCount 0 0 0 ∷ []
