-- Worked rows on flows: acquires, templates, the best state, and the numbers that are sent.
use Rattle.std.specs.Prelude.{◌≡◌, ℕ, [], ◌∷◌, false}
use Rattle.std.proofs.Common.{lit<}
use Rattle.xf_types.specs.declared.network.Addr.TheVariants.{V4, V6}
use Rattle.xf_types.specs.declared.network.Dir.TheVariants.{In}
use Rattle.xf_types.specs.declared.network.Proto.TheVariants.{Esp}
use Rattle.xf_types.specs.declared.policy.Level.TheVariants.{Required, Use}
use Rattle.xf_types.specs.declared.policy.Limits.{Limits}
use Rattle.xf_types.specs.declared.policy.Mode.TheVariants.{Transport, Tunnel}
use Rattle.xf_types.specs.declared.policy.Template.{Template}
use Rattle.xf_types.specs.declared.call.Call.{Call}
use Rattle.xf_types.specs.declared.call.Call.TheVariants as call
use Rattle.xf_types.specs.declared.call.Event.TheVariants.{StateSoft, StateExpired}
use Rattle.xf_types.specs.declared.call.Reply.TheVariants as reply
use Rattle.xf_types.specs.Machine.{Machine}
use Rattle.xf_types.specs.StateList.{no_limits}
use Rattle.xf_types.specs.Steps.{empty}
use Rattle.xf_examples.specs.Words.{replies, usual, a5, b1, b2, ten1, unmarked, sa, policy_with, template, flow, hop}

abbrev tunnel : Template
tunnel = template b1 b2 Tunnel 7 Required

abbrev transport : Template
transport = template (V4 0) (V4 0) Transport 7 Required

abbrev add_with : Template → Call
add_with t = call.PolicyAdd (policy_with (t ∷ []) 0 no_limits)

abbrev ask : Call
ask = call.Flow flow

-- a transport state of the flow
abbrev via : ℕ → Limits → Call
via spi limits = call.StateAdd (sa ten1 a5 spi Transport 7 0 unmarked limits 0 (lit< tt))

-- the machine with this acquire counter
abbrev acquiring_from : ℕ → Machine
acquiring_from next = record { shown = record usual.shown { next_seq = next }; own = [] }

pub record FlowRows : Type 0 where
  pub acquire :
      replies usual (add_with tunnel ∷ ask ∷ ask ∷ call.StateAdd (sa b1 b2 8192 Tunnel 7 1 unmarked no_limits 0 (lit< tt)) ∷ ask ∷ [])
      ≡ reply.DoneIndex 9 ∷ reply.Acquire 1 ∷ reply.Waiting 1 ∷ reply.DoneSid 2 ∷ reply.FlowAllow 9 (hop 2 8192 b2 ∷ []) ∷ []
  pub larval_ends :
      replies usual (add_with tunnel ∷ ask ∷ ask ∷ call.Tick 30 ∷ ask ∷ [])
      ≡ reply.DoneIndex 9 ∷ reply.Acquire 1 ∷ reply.Waiting 1 ∷ reply.Ticked 30 (StateExpired 1 ∷ []) ∷ reply.Acquire 2 ∷ []
  pub larval_stays :
      replies usual (add_with tunnel ∷ ask ∷ ask ∷ call.Tick 29 ∷ ask ∷ [])
      ≡ reply.DoneIndex 9 ∷ reply.Acquire 1 ∷ reply.Waiting 1 ∷ reply.Ticked 29 [] ∷ reply.Waiting 1 ∷ []
  -- the last number is sent, and then no more
  pub overflow :
      replies usual
      (add_with transport ∷ call.StateAdd (sa ten1 a5 4096 Transport 7 0 unmarked no_limits 4294967294 (lit< tt))
      ∷ ask ∷ call.Output 1 10 ∷ ask ∷ call.Output 1 10 ∷ [])
      ≡ reply.DoneIndex 9 ∷ reply.DoneSid 1 ∷ reply.FlowAllow 9 (hop 1 4096 a5 ∷ []) ∷ reply.Sent Esp 4096 4294967295 false
      ∷ reply.FlowAllow 9 (hop 1 4096 a5 ∷ []) ∷ reply.Overflow false ∷ []
  -- an optional template without a state is skipped and leaves the addresses; the acquire counter wraps
  pub skipped :
      replies (acquiring_from 4294967295)
      (call.PolicyAdd (policy_with (template b1 b2 Tunnel 1 Use ∷ template (V4 0) (V4 0) Transport 2 Required ∷ []) 0 no_limits)
      ∷ call.TryFlow flow ∷ ask ∷ call.TryFlow flow
      ∷ call.StateAdd (sa (V6 0) a5 77 Transport 2 0 unmarked no_limits 0 (lit< tt)) ∷ ask ∷ [])
      ≡ reply.DoneIndex 9 ∷ reply.Wanting 9 1 ∷ reply.Acquire 4294967295 ∷ reply.Waiting 4294967295 ∷ reply.DoneSid 2
      ∷ reply.FlowAllow 9 (hop 2 77 a5 ∷ []) ∷ []
  -- dying states come last, then the latest added time, then the latest
  pub best :
      replies usual
      (add_with transport ∷ via 1 no_limits ∷ via 2 no_limits ∷ ask ∷ call.Tick 5 ∷ via 3 (record no_limits { time_soft = 5 }) ∷ ask
      ∷ call.Tick 10 ∷ ask ∷ [])
      ≡ reply.DoneIndex 9 ∷ reply.DoneSid 1 ∷ reply.DoneSid 2 ∷ reply.FlowAllow 9 (hop 2 2 a5 ∷ []) ∷ reply.Ticked 5 [] ∷ reply.DoneSid 3
      ∷ reply.FlowAllow 9 (hop 3 3 a5 ∷ []) ∷ reply.Ticked 10 (StateSoft 3 ∷ []) ∷ reply.FlowAllow 9 (hop 2 2 a5 ∷ []) ∷ []
  -- an optional template is skipped where the state that suits is larval
  pub larval_skipped :
      replies usual
      (add_with (template (V4 0) (V4 0) Transport 7 Use)
      ∷ call.AllocSpi (record { src = ten1; dst = a5; proto = Esp; mode = Transport; mark = unmarked; reqid = 7; seq = 3; min = 256; max = 256 })
      ∷ ask ∷ via 5 no_limits ∷ ask ∷ [])
      ≡ reply.DoneIndex 9 ∷ reply.DoneSpi 256 1 ∷ reply.FlowAllow 9 [] ∷ reply.DoneSid 2 ∷ reply.FlowAllow 9 (hop 2 5 a5 ∷ []) ∷ []
  -- a required one waits for it
  pub larval_awaited :
      replies usual
      (add_with transport
      ∷ call.AllocSpi (record { src = ten1; dst = a5; proto = Esp; mode = Transport; mark = unmarked; reqid = 7; seq = 3; min = 256; max = 256 })
      ∷ ask ∷ call.TryFlow flow ∷ [])
      ≡ reply.DoneIndex 9 ∷ reply.DoneSpi 256 1 ∷ reply.Waiting 3 ∷ reply.Waiting 3 ∷ []
  -- no state is acquired at capacity
  pub no_room :
      replies (empty 1 0) (add_with transport ∷ ask ∷ call.TryFlow flow ∷ []) ≡ reply.DoneIndex 9 ∷ reply.Full 0 0 ∷ reply.Wanting 9 0 ∷ []
  -- for what comes in no template is tried
  pub inward :
      replies usual (call.PolicyAdd (record (policy_with (tunnel ∷ []) 0 no_limits) { dir = In }) ∷ call.Flow (record flow { dir = In }) ∷ [])
      ≡ reply.DoneIndex 8 ∷ reply.FlowAllow 8 [] ∷ []
