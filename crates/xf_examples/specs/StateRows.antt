-- Worked rows on states: adding, finding, updating, and larval states.
use Rattle.std.specs.Prelude.{◌≡◌, [], ◌∷◌, None, Some, true, false}
use Rattle.std.proofs.Common.{lit<}
use Rattle.xf_types.specs.declared.network.Addr.TheVariants.{V4}
use Rattle.xf_types.specs.declared.network.Proto.TheVariants.{Esp}
use Rattle.xf_types.specs.declared.policy.Mode.TheVariants.{Transport, Tunnel}
use Rattle.xf_types.specs.declared.call.Call.TheVariants as call
use Rattle.xf_types.specs.declared.call.Reply.TheVariants as reply
use Rattle.xf_types.specs.StateList.{no_limits}
use Rattle.xf_types.specs.Steps.{empty}
use Rattle.xf_examples.specs.Words.{replies, usual, a2, ten1, unmarked, sa, sa_to_a2, state_to_a2, packet, alloc}

pub record StateRows : Type 0 where
  pub updated :
      replies usual
      (state_to_a2 no_limits ∷ packet 5 (lit< tt) 0 true
      ∷ call.StateUpdate (sa_to_a2 unmarked (record no_limits { packet_hard = Some 1 })) ∷ packet 6 (lit< tt) 0 true ∷ [])
      ≡ reply.DoneSid 1 ∷ reply.Accepted 5 false ∷ reply.DoneSid 1 ∷ reply.Expired ∷ []
  -- SPIs of a range, each once, and a packet to a larval state
  pub range :
      replies usual
      (call.AllocSpi alloc ∷ call.AllocSpi alloc ∷ call.AllocSpi alloc
      ∷ call.Packet (record { src = V4 0; dst = a2; proto = Esp; spi = 256; seq = 1; len = 0; mark = 0; icv_ok = true; facts = record { seq_fits = lit< tt } }) ∷ [])
      ≡ reply.DoneSpi 256 1 ∷ reply.DoneSpi 257 2 ∷ reply.NoSpi ∷ reply.Larval ∷ []
  -- a range that is upside down is refused, and one that is free past the room is too
  pub no_range : replies usual (call.AllocSpi (record alloc { min = 257; max = 256 }) ∷ []) ≡ reply.Invalid ∷ []
  pub no_room : replies (empty 1 1) (call.AllocSpi alloc ∷ call.AllocSpi alloc ∷ []) ≡ reply.DoneSpi 256 1 ∷ reply.Full 1 0 ∷ []
  -- the latest match is found, whatever its mark asks
  pub marks :
      replies usual
      (call.StateAdd (sa_to_a2 (record { value = 5; mask = 255 }) no_limits) ∷ call.StateAdd (sa_to_a2 unmarked no_limits)
      ∷ call.StateDelete (record { dst = a2; proto = Esp; spi = 4096; mark = 5 })
      ∷ call.StateAdd (sa_to_a2 (record { value = 5; mask = 4294967295 }) no_limits) ∷ call.StateCount ∷ [])
      ≡ reply.DoneSid 1 ∷ reply.DoneSid 2 ∷ reply.DoneSid 2 ∷ reply.StateExists 1 ∷ reply.StateCount 1 ∷ []
  -- a larval state is updated where there is room, and not at capacity
  pub larval_update :
      replies (empty 1 2)
      (call.AllocSpi alloc ∷ call.StateUpdate (sa (V4 0) a2 256 Transport 0 0 unmarked no_limits 0 (lit< tt)) ∷ call.AllocSpi alloc
      ∷ call.StateUpdate (sa (V4 0) a2 257 Transport 0 0 unmarked no_limits 0 (lit< tt)) ∷ [])
      ≡ reply.DoneSpi 256 1 ∷ reply.DoneSid 2 ∷ reply.DoneSpi 257 3 ∷ reply.Full 2 0 ∷ []
  -- a larval state is an output's state too
  pub larval_output :
      replies usual (call.AllocSpi alloc ∷ call.Output 1 5 ∷ []) ≡ reply.DoneSpi 256 1 ∷ reply.Sent Esp 256 1 false ∷ []
  -- the update of a state in use leaves window, numbers and mode
  pub update_in_use :
      replies usual
      (state_to_a2 (record no_limits { packet_soft = Some 0 }) ∷ packet 3 (lit< tt) 0 true
      ∷ call.StateUpdate (sa ten1 a2 4096 Tunnel 9 0 (record { value = 0; mask = 1 }) no_limits 0 (lit< tt))
      ∷ call.StateGet (record { dst = a2; proto = Esp; spi = 4096; mark = 1 }) ∷ packet 3 (lit< tt) 0 true ∷ [])
      ≡ reply.DoneSid 1 ∷ reply.Accepted 3 true ∷ reply.DoneSid 1
      ∷ reply.StateShown (record { sid = 1; added = 0; larval = false; dying = false; spec = sa_to_a2 unmarked no_limits })
      ∷ reply.Seen 3 ∷ []
  -- what isn't listed is not deleted
  pub not_listed :
      replies usual (call.StateDelete (record { dst = a2; proto = Esp; spi = 4096; mark = 0 }) ∷ call.StateFlush None ∷ call.StateCount ∷ [])
      ≡ reply.NoState ∷ reply.Removed 0 ∷ reply.StateCount 0 ∷ []
