-- Worked rows on windows: fresh, old and seen numbers (RFC 4303, 3.4.3), and what a history accepts.
use Rattle.std.specs.Prelude.{◌≡◌, ◌<◌, ◌≤◌, ◌^◌, ℕ, [], ◌∷◌, true, false}
use Rattle.std.proofs.Common.{lit≤, lit<}
use Rattle.xf_types.specs.declared.call.Call.{Call}
use Rattle.xf_types.specs.declared.call.Call.TheVariants as call
use Rattle.xf_types.specs.declared.call.Reply.TheVariants as reply
use Rattle.xf_types.specs.StateList.{no_limits}
use Rattle.xf_examples.specs.Words.{replies, usual, unmarked, sa_to_a2, state_to_a2, packet}
use Rattle.std.specs.Prelude.{List}
use Rattle.xf_types.specs.declared.call.Receipt.{Receipt}
use Rattle.xf_types.specs.Acceptance.{Accepting, acceptings}
use Rattle.xf_examples.specs.Words.{receipt}

-- the row's history
abbrev window_history : List Receipt
window_history =
    receipt 0 0 1 0 (state_to_a2 no_limits) (reply.DoneSid 1) ∷ receipt 1 0 2 0 (packet 1 (lit< tt) 0 true) (reply.Accepted 1 false)
    ∷ receipt 2 0 3 0 (packet 33 (lit< tt) 0 true) (reply.Accepted 33 false)
    ∷ receipt 3 0 4 0 (packet 2 (lit< tt) 0 true) (reply.Accepted 33 false) ∷ receipt 4 0 5 0 (packet 1 (lit< tt) 0 true) (reply.Old 33)
    ∷ receipt 5 0 6 0 (packet 0 (lit< tt) 0 true) reply.Zero ∷ receipt 6 0 7 0 (packet 33 (lit< tt) 0 true) (reply.Seen 33) ∷ []

-- the first state accepts the number
abbrev accepts : ℕ → Accepting
accepts number = record { sid = 1; number = number }

-- a transport state to 192.0.2.2 with extended numbers
abbrev extended_to_a2 : (window start : ℕ) → window ≤ 4096 → start < 2 ^ 64 → Call
extended_to_a2 window start fits small =
    call.StateAdd (record (sa_to_a2 unmarked no_limits) {
      window = window;
      in_seq = start;
      esn = true;
      facts = record { window_fits = fits; in_fits = small; out_fits = lit< tt };
    })

-- an extended state accepts 4294967295 and then 4294967301, and a packet with the same low half is seen
abbrev pub extended_history : List Receipt
extended_history =
    receipt 0 0 1 0 (extended_to_a2 64 4294967280 (lit≤ tt) (lit< tt)) (reply.DoneSid 1)
    ∷ receipt 1 0 2 0 (packet 4294967295 (lit< tt) 0 true) (reply.Accepted 4294967295 false)
    ∷ receipt 2 0 3 0 (packet 5 (lit< tt) 0 true) (reply.Accepted 4294967301 false)
    ∷ receipt 3 0 4 0 (packet 5 (lit< tt) 0 true) (reply.Seen 4294967301) ∷ []

pub record WindowRows : Type 0 where
  pub window :
      replies usual
      (state_to_a2 no_limits ∷ packet 1 (lit< tt) 0 true ∷ packet 33 (lit< tt) 0 true ∷ packet 2 (lit< tt) 0 true
      ∷ packet 1 (lit< tt) 0 true ∷ packet 0 (lit< tt) 0 true ∷ packet 33 (lit< tt) 0 true ∷ [])
      ≡ reply.DoneSid 1 ∷ reply.Accepted 1 false ∷ reply.Accepted 33 false ∷ reply.Accepted 33 false ∷ reply.Old 33
      ∷ reply.Zero ∷ reply.Seen 33 ∷ []
  -- past 2^32 a packet carries the low half of its number (RFC 4303, Appendix A2)
  pub extended :
      replies usual
      (extended_to_a2 64 4294967280 (lit≤ tt) (lit< tt) ∷ packet 4294967295 (lit< tt) 0 true ∷ packet 5 (lit< tt) 0 true
      ∷ packet 4294967294 (lit< tt) 0 true ∷ packet 0 (lit< tt) 0 true ∷ packet 5 (lit< tt) 0 true ∷ packet 4294967280 (lit< tt) 0 true ∷ [])
      ≡ reply.DoneSid 1 ∷ reply.Accepted 4294967295 false ∷ reply.Accepted 4294967301 false ∷ reply.Accepted 4294967301 false
      ∷ reply.Accepted 4294967301 false ∷ reply.Seen 4294967301 ∷ reply.Seen 4294967301 ∷ []
  pub no_number :
      replies usual
      (extended_to_a2 32 0 (lit≤ tt) (lit< tt) ∷ packet 0 (lit< tt) 0 true ∷ packet 4294967265 (lit< tt) 0 true
      ∷ packet 4294967264 (lit< tt) 0 true ∷ [])
      ≡ reply.DoneSid 1 ∷ reply.Zero ∷ reply.Old 0 ∷ reply.Accepted 4294967264 false ∷ []
  -- each number is accepted once
  pub accepted : acceptings usual window_history ≡ accepts 1 ∷ accepts 33 ∷ accepts 2 ∷ []
  -- of an extended state the whole number is what is accepted
  pub accepted_extended : acceptings usual extended_history ≡ accepts 4294967295 ∷ accepts 4294967301 ∷ []
