-- Worked rows on filters of states.
use Rattle.std.specs.Prelude.{◌≡◌, ℕ, [], ◌∷◌, None, Some, false}
use Rattle.std.proofs.Common.{lit<}
use Rattle.xf_types.specs.declared.network.Proto.TheVariants.{Esp, Ah, Comp}
use Rattle.xf_types.specs.declared.policy.Mode.TheVariants.{Transport, Tunnel}
use Rattle.xf_types.specs.declared.call.Call.{Call}
use Rattle.xf_types.specs.declared.call.Call.TheVariants as call
use Rattle.xf_types.specs.declared.call.Reply.TheVariants as reply
use Rattle.xf_types.specs.Machine.{Machine}
use Rattle.xf_types.specs.StateList.{no_limits}
use Rattle.xf_examples.specs.Words.{replies, after, usual, a2, b1, b2, ten1, unmarked, sa}
use Rattle.std.specs.Prelude.{List}
use Rattle.xf_types.specs.declared.state.Sa.{Sa}
use Rattle.xf_types.specs.declared.state.SaSpec.{SaSpec}
use Rattle.xf_types.specs.declared.state.SaFilter.{SaFilter}
use Rattle.xf_types.specs.declared.call.Reply.{Reply}

abbrev no_filter : SaFilter
no_filter = record { src = None; dst = None; proto = None; spi = None; mode = None; reqid = None }

-- a transport state with ESP, a tunnel with AH, and a transport state with IPComp
abbrev esp_spec : SaSpec
esp_spec = sa ten1 a2 256 Transport 7 0 unmarked no_limits 0 (lit< tt)

abbrev ah_spec : SaSpec
ah_spec = record (sa b1 b2 256 Tunnel 8 0 unmarked no_limits 0 (lit< tt)) { proto = Ah }

abbrev comp_spec : SaSpec
comp_spec = record (sa ten1 b2 257 Transport 8 0 unmarked no_limits 0 (lit< tt)) { proto = Comp }

abbrev with_three : Machine
with_three = after usual (call.StateAdd esp_spec ∷ call.StateAdd ah_spec ∷ call.StateAdd comp_spec ∷ [])

abbrev listed : ℕ → SaSpec → Sa
listed sid spec = record { sid = sid; added = 0; larval = false; dying = false; spec = spec }

abbrev esp : Sa
esp = listed 1 esp_spec

abbrev ah : Sa
ah = listed 2 ah_spec

abbrev comp : Sa
comp = listed 3 comp_spec

-- what is listed under a filter
abbrev asked_for : SaFilter → List Reply
asked_for filter = replies with_three (call.StateList filter ∷ [])

abbrev shown : List Sa → List Reply
shown states = reply.StateList states ∷ []

-- how many are deleted under a filter, and what is left
abbrev deleted : SaFilter → List Reply
deleted filter = replies with_three (call.StateDeleteAll filter ∷ call.StateList no_filter ∷ [])

abbrev left : ℕ → List Sa → List Reply
left count states = reply.Removed count ∷ reply.StateList states ∷ []

-- the same of a flush
abbrev flushed : Call → List Reply
flushed c = replies with_three (c ∷ call.StateList no_filter ∷ [])

pub record StateFilterRows : Type 0 where
  pub all : asked_for no_filter ≡ shown (esp ∷ ah ∷ comp ∷ [])
  pub by_src : asked_for (record no_filter { src = Some ten1 }) ≡ shown (esp ∷ comp ∷ [])
  pub by_dst : asked_for (record no_filter { dst = Some b2 }) ≡ shown (ah ∷ comp ∷ [])
  pub by_proto : asked_for (record no_filter { proto = Some Esp }) ≡ shown (esp ∷ [])
  pub by_spi : asked_for (record no_filter { spi = Some 256 }) ≡ shown (esp ∷ ah ∷ [])
  pub by_mode : asked_for (record no_filter { mode = Some Transport }) ≡ shown (esp ∷ comp ∷ [])
  pub by_reqid : asked_for (record no_filter { reqid = Some 7 }) ≡ shown (esp ∷ [])
  pub by_two : asked_for (record no_filter { dst = Some b2; mode = Some Transport }) ≡ shown (comp ∷ [])
  pub all_deleted : deleted no_filter ≡ left 3 []
  pub deleted_by_src : deleted (record no_filter { src = Some b1 }) ≡ left 1 (esp ∷ comp ∷ [])
  pub deleted_by_dst : deleted (record no_filter { dst = Some b2 }) ≡ left 2 (esp ∷ [])
  pub deleted_by_proto : deleted (record no_filter { proto = Some Comp }) ≡ left 1 (esp ∷ ah ∷ [])
  pub deleted_by_spi : deleted (record no_filter { spi = Some 256 }) ≡ left 2 (comp ∷ [])
  pub deleted_by_mode : deleted (record no_filter { mode = Some Tunnel }) ≡ left 1 (esp ∷ comp ∷ [])
  pub deleted_by_reqid : deleted (record no_filter { reqid = Some 9 }) ≡ left 0 (esp ∷ ah ∷ comp ∷ [])
  -- those of a protocol are flushed, or all
  pub flushed_by_proto : flushed (call.StateFlush (Some Ah)) ≡ left 1 (esp ∷ comp ∷ [])
  pub all_flushed : flushed (call.StateFlush None) ≡ left 3 []
