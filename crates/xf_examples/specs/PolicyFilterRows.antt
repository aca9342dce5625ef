-- Worked rows on filters of policies, and on their count.
use Rattle.std.specs.Prelude.{◌≡◌, [], ◌∷◌, None, Some}
use Rattle.xf_types.specs.declared.network.Dir.TheVariants.{In}
use Rattle.xf_types.specs.declared.network.Ptype.TheVariants.{Main, Sub}
use Rattle.xf_types.specs.declared.policy.Action.TheVariants.{Allow}
use Rattle.xf_types.specs.declared.call.Call.TheVariants as call
use Rattle.xf_types.specs.declared.call.Reply.TheVariants as reply
use Rattle.xf_types.specs.Machine.{Machine}
use Rattle.xf_types.specs.declared.policy.Policy.{Policy}
use Rattle.xf_types.specs.declared.policy.PolicyFilter.{PolicyFilter}
use Rattle.xf_types.specs.declared.call.Reply.{Reply}
use Rattle.std.specs.Prelude.{List}
use Rattle.xf_examples.specs.Words.{replies, after, usual, ten, lab, everything, ten_to_lab, policy_to, add_proto}
use Rattle.xf_examples.specs.PolicyWords.{no_filter, listed, outward_six, inward_block, forward_sub}

-- the machine with the three policies, in the order of their priorities
abbrev with_three : Machine
with_three = after usual (call.PolicyAdd outward_six ∷ call.PolicyAdd inward_block ∷ call.PolicyAdd forward_sub ∷ [])

abbrev six : Policy
six = listed 1 9 outward_six

abbrev block : Policy
block = listed 2 16 inward_block

abbrev sub : Policy
sub = listed 3 26 forward_sub

-- what is listed under a filter
abbrev asked_for : PolicyFilter → List Reply
asked_for filter = replies with_three (call.PolicyList filter ∷ [])

abbrev shown : List Policy → List Reply
shown policies = reply.PolicyList policies ∷ []

pub record PolicyFilterRows : Type 0 where
  pub all : asked_for no_filter ≡ shown (six ∷ sub ∷ block ∷ [])
  pub by_dir : asked_for (record no_filter { dir = Some In }) ≡ shown (block ∷ [])
  pub by_ptype : asked_for (record no_filter { ptype = Some Main }) ≡ shown (six ∷ block ∷ [])
  pub by_action : asked_for (record no_filter { action = Some Allow }) ≡ shown (six ∷ sub ∷ [])
  pub by_priority : asked_for (record no_filter { priority = Some 2 }) ≡ shown (sub ∷ [])
  pub by_index : asked_for (record no_filter { index = Some 9 }) ≡ shown (six ∷ [])
  pub by_src : asked_for (record no_filter { src = Some ten }) ≡ shown (six ∷ block ∷ [])
  pub by_dst : asked_for (record no_filter { dst = Some lab }) ≡ shown (six ∷ block ∷ [])
  pub by_proto : asked_for (record no_filter { proto = Some 0 }) ≡ shown (sub ∷ [])
  -- a port that is left out is not port 0
  pub by_sport : asked_for (record no_filter { sport = Some 0 }) ≡ shown []
  pub by_dport : asked_for (record no_filter { dport = Some 0 }) ≡ shown (block ∷ [])
  pub by_two : asked_for (record no_filter { src = Some ten; priority = Some 0 }) ≡ shown (six ∷ [])
  -- a filter's any is a prefix of length 0, by equality
  pub filters :
      replies usual
      (add_proto 6 ∷ call.PolicyAdd (policy_to (record ten_to_lab { proto = 6; sport = Some 0 }) 0)
      ∷ call.PolicyDeleteAll (record no_filter { src = Some everything }) ∷ call.PolicyDeleteAll (record no_filter { sport = Some 0 })
      ∷ call.PolicyDeleteAll (record no_filter { proto = Some 0 }) ∷ call.PolicyFlush (Some Sub) ∷ call.PolicyFlush None ∷ [])
      ≡ reply.DoneIndex 9 ∷ reply.DoneIndex 17 ∷ reply.Removed 0 ∷ reply.Removed 1 ∷ reply.Removed 0 ∷ reply.Removed 0
      ∷ reply.Removed 1 ∷ []
  -- policies are counted by direction
  pub counted :
      replies with_three (call.PolicyCount ∷ call.PolicyFlush (Some Sub) ∷ call.PolicyCount ∷ add_proto 1 ∷ call.PolicyCount ∷ [])
      ≡ reply.PolicyCount 1 1 1 ∷ reply.Removed 1 ∷ reply.PolicyCount 1 1 0 ∷ reply.DoneIndex 33 ∷ reply.PolicyCount 1 2 0 ∷ []
