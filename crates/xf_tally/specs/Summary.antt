-- The summary of a run: how many call lines and receipts there are, and of which kinds the replies are.
use Rattle.std.specs.Prelude.{ℕ, Bool, true, false, ◌+◌, ◌*◌, if◌then◌else◌, List, length, count_by}
use Rattle.std.specs.List.{sum_by}
use Rattle.xf_types.specs.declared.call.Receipt.{Receipt}
use Rattle.xf_types.specs.declared.call.Reply.{Reply}
use Rattle.xf_types.specs.declared.call.Reply.TheVariants as reply
use Rattle.xf_types.specs.Codes.{is_refusal_of}

-- ---- kinds of replies

-- a policy applies to the flow
abbrev pub has_policy : Reply → Bool
has_policy (reply.FlowBlock index) = true
has_policy (reply.FlowAllow index path) = true
has_policy _ = false

-- no policy applies to the flow
abbrev pub has_none : Reply → Bool
has_none reply.FlowNone = true
has_none _ = false

-- a packet was sent
abbrev pub is_sent : Reply → Bool
is_sent (reply.Sent proto spi seq soft) = true
is_sent _ = false

-- a packet was accepted
abbrev pub is_accepted : Reply → Bool
is_accepted (reply.Accepted top soft) = true
is_accepted _ = false

-- a packet or an output was dropped
abbrev pub is_dropped : Reply → Bool
is_dropped reply.Zero = true
is_dropped (reply.Old top) = true
is_dropped (reply.Seen top) = true
is_dropped reply.Expired = true
is_dropped reply.Larval = true
is_dropped (reply.BadIcv soft) = true
is_dropped _ = false

-- a line times the number that was sent there, where one was
abbrev pub mix_of : ℕ → Reply → ℕ
mix_of line (reply.Sent proto spi seq soft) = line * seq
mix_of line _ = 0

-- ---- summaries

-- the numbers of a summary
pub record Summary : Type 0 where
  pub lines : ℕ
  pub calls : ℕ
  pub policy : ℕ
  pub none : ℕ
  pub sent : ℕ
  pub accepted : ℕ
  pub dropped : ℕ
  pub refused : ℕ
  pub mix : ℕ

-- how many receipts have such a reply
abbrev pub count_of : (Reply → Bool) → List Receipt → ℕ
count_of test receipts = count_by (λ (r : Receipt). test r.reply) receipts

-- the summary of so many call lines and these receipts
unfoldable pub summary_of : ℕ → List Receipt → Summary
summary_of lines receipts = record {
  lines = lines;
  calls = length receipts;
  policy = count_of has_policy receipts;
  none = count_of has_none receipts;
  sent = count_of is_sent receipts;
  accepted = count_of is_accepted receipts;
  dropped = count_of is_dropped receipts;
  refused = count_of is_refusal_of receipts;
  mix = sum_by (λ (r : Receipt). mix_of r.at.line r.reply) receipts;
}

-- ---- one receipt more

-- a count with one more, where the test says so
abbrev pub with_one : Bool → ℕ → ℕ
with_one test n = n + (if test then 1 else 0)

-- the summary with one reply more, to a call of this line
abbrev pub counted : Summary → ℕ → Reply → Summary
counted s line r = record {
  lines = s.lines;
  calls = s.calls + 1;
  policy = with_one (has_policy r) s.policy;
  none = with_one (has_none r) s.none;
  sent = with_one (is_sent r) s.sent;
  accepted = with_one (is_accepted r) s.accepted;
  dropped = with_one (is_dropped r) s.dropped;
  refused = with_one (is_refusal_of r) s.refused;
  mix = s.mix + mix_of line r;
}
