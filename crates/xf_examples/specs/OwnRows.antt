-- Worked rows on own parts: a state keeps its own where another one leaves.
use Rattle.std.specs.Prelude.{◌≡◌, ℕ, ◌<◌, ◌^◌, [], ◌∷◌, Some, true, false}
use Rattle.std.proofs.Common.{lit<}
use Rattle.xf_types.specs.declared.network.Addr.TheVariants.{V4}
use Rattle.xf_types.specs.declared.network.Proto.TheVariants.{Esp}
use Rattle.xf_types.specs.declared.policy.Mode.TheVariants.{Transport}
use Rattle.xf_types.specs.declared.call.Call.{Call}
use Rattle.xf_types.specs.declared.call.Call.TheVariants as call
use Rattle.xf_types.specs.declared.call.Event.TheVariants.{StateExpired}
use Rattle.xf_types.specs.declared.call.Reply.TheVariants as reply
use Rattle.xf_types.specs.StateList.{no_limits}
use Rattle.xf_examples.specs.Words.{replies, usual, a2, unmarked, sa, state_to_a2, packet, alloc}

-- a packet to the SPI after it
abbrev packet_to_second : (seq : ℕ) → seq < 2 ^ 32 → Call
packet_to_second seq fits =
    call.Packet (record { src = V4 0; dst = a2; proto = Esp; spi = 4097; seq = seq; len = 0; mark = 0; icv_ok = true; facts = record { seq_fits = fits } })

pub record OwnRows : Type 0 where
  -- a state keeps its own part where a larval one before it is replaced
  pub beside_replaced :
      replies usual
      (call.AllocSpi (record alloc { seq = 3 }) ∷ state_to_a2 no_limits ∷ packet 5 (lit< tt) 0 true
      ∷ call.StateAdd (sa (V4 0) a2 256 Transport 0 3 unmarked no_limits 0 (lit< tt)) ∷ packet 5 (lit< tt) 0 true ∷ [])
      ≡ reply.DoneSpi 256 1 ∷ reply.DoneSid 2 ∷ reply.Accepted 5 false ∷ reply.DoneSid 3 ∷ reply.Seen 5 ∷ []
  -- and where one before it is deleted
  pub beside_deleted :
      replies usual
      (call.AllocSpi alloc ∷ state_to_a2 no_limits ∷ packet 5 (lit< tt) 0 true
      ∷ call.StateDelete (record { dst = a2; proto = Esp; spi = 256; mark = 0 }) ∷ packet 5 (lit< tt) 0 true ∷ [])
      ≡ reply.DoneSpi 256 1 ∷ reply.DoneSid 2 ∷ reply.Accepted 5 false ∷ reply.DoneSid 1 ∷ reply.Seen 5 ∷ []
  -- and where one before it expires, by a packet or by time
  pub beside_expired :
      replies usual
      (state_to_a2 (record no_limits { packet_hard = Some 0 })
      ∷ call.StateAdd (sa (V4 0) a2 4097 Transport 0 0 unmarked no_limits 0 (lit< tt)) ∷ packet_to_second 5 (lit< tt)
      ∷ packet 1 (lit< tt) 0 true ∷ packet_to_second 5 (lit< tt) ∷ [])
      ≡ reply.DoneSid 1 ∷ reply.DoneSid 2 ∷ reply.Accepted 5 false ∷ reply.Expired ∷ reply.Seen 5 ∷ []
  pub beside_ended :
      replies usual
      (call.AllocSpi alloc ∷ state_to_a2 no_limits ∷ packet 5 (lit< tt) 0 true ∷ call.Tick 30 ∷ packet 5 (lit< tt) 0 true ∷ [])
      ≡ reply.DoneSpi 256 1 ∷ reply.DoneSid 2 ∷ reply.Accepted 5 false ∷ reply.Ticked 30 (StateExpired 1 ∷ []) ∷ reply.Seen 5 ∷ []
