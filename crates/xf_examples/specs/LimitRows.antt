-- Worked rows on the limits of states: hard ends, soft warns once.
use Rattle.std.specs.Prelude.{◌≡◌, ℕ, [], ◌∷◌, Some, true, false}
use Rattle.std.proofs.Common.{lit<}
use Rattle.xf_types.specs.declared.policy.Mode.TheVariants.{Transport}
use Rattle.xf_types.specs.declared.call.Call.TheVariants as call
use Rattle.xf_types.specs.declared.call.Event.TheVariants.{StateExpired}
use Rattle.xf_types.specs.declared.call.Reply.TheVariants as reply
use Rattle.xf_types.specs.Machine.{Machine}
use Rattle.xf_types.specs.StateList.{no_limits}
use Rattle.xf_examples.specs.Words.{replies, usual, a5, ten1, unmarked, sa, state_to_a2, packet, alloc}

-- the machine at this time
abbrev at : ℕ → Machine
at time = record { shown = record usual.shown { time = time }; own = [] }

pub record LimitRows : Type 0 where
  pub hard :
      replies usual
      (state_to_a2 (record no_limits { packet_hard = Some 2 }) ∷ packet 1 (lit< tt) 0 true ∷ packet 2 (lit< tt) 0 true
      ∷ packet 3 (lit< tt) 0 true ∷ packet 4 (lit< tt) 0 true ∷ [])
      ≡ reply.DoneSid 1 ∷ reply.Accepted 1 false ∷ reply.Accepted 2 false ∷ reply.Expired ∷ reply.NoState ∷ []
  pub hard_at_once :
      replies usual (state_to_a2 (record no_limits { byte_hard = Some 0 }) ∷ packet 1 (lit< tt) 0 true ∷ [])
      ≡ reply.DoneSid 1 ∷ reply.Expired ∷ []
  pub soft :
      replies usual
      (state_to_a2 (record no_limits { byte_soft = Some 100 }) ∷ packet 1 (lit< tt) 60 true ∷ packet 2 (lit< tt) 60 true
      ∷ packet 3 (lit< tt) 60 true ∷ packet 4 (lit< tt) 60 true ∷ packet 5 (lit< tt) 60 false ∷ packet 5 (lit< tt) 60 true ∷ [])
      ≡ reply.DoneSid 1 ∷ reply.Accepted 1 false ∷ reply.Accepted 2 false ∷ reply.Accepted 3 true ∷ reply.Accepted 4 false
      ∷ reply.BadIcv false ∷ reply.Accepted 5 false ∷ []
  -- a soft limit is said with a bad check value, and not again
  pub soft_with_bad_icv :
      replies usual
      (state_to_a2 (record no_limits { packet_soft = Some 0 }) ∷ packet 1 (lit< tt) 0 false ∷ packet 1 (lit< tt) 0 true ∷ [])
      ≡ reply.DoneSid 1 ∷ reply.BadIcv true ∷ reply.Accepted 1 false ∷ []
  -- and with an overflow
  pub soft_with_overflow :
      replies usual
      (call.StateAdd (sa ten1 a5 4096 Transport 7 0 unmarked (record no_limits { packet_soft = Some 0 }) 4294967295 (lit< tt))
      ∷ call.Output 1 10 ∷ call.Output 1 10 ∷ [])
      ≡ reply.DoneSid 1 ∷ reply.Overflow true ∷ reply.Overflow false ∷ []
  -- a larval state in the last half minute of time
  pub last_minute :
      replies (at 18446744073709551615) (call.AllocSpi alloc ∷ call.Tick 0 ∷ [])
      ≡ reply.DoneSpi 256 1 ∷ reply.Ticked 18446744073709551615 (StateExpired 1 ∷ []) ∷ []
  -- sums of times stop at the greatest number
  pub sums :
      replies usual
      (state_to_a2 (record no_limits { time_hard = 18446744073709551615 }) ∷ call.Tick 18446744073709551614
      ∷ call.Tick 18446744073709551615 ∷ [])
      ≡ reply.DoneSid 1 ∷ reply.Ticked 18446744073709551614 [] ∷ reply.Ticked 18446744073709551615 (StateExpired 1 ∷ []) ∷ []
