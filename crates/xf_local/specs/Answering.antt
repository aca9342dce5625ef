-- What a value answers, and what it is afterwards.
use Rattle.std.specs.Prelude.{◌≡◌, Bool, true, false, if◌then◌else◌}
use Rattle.xf_types.specs.declared.call.Reply.{Reply}
use Rattle.xf_types.specs.declared.call.Reply.TheVariants as reply
use Rattle.xf_types.specs.Moves.{says_soft}
use Rattle.xf_held.specs.declared.traffic.Treatment.{Treatment}
use Rattle.xf_local.specs.View.{LiveView, LocalView, Live}
use Rattle.xf_local.specs.View as value
use Rattle.xf_local.specs.Alone.{Traffic, step_of, left_in}
use Rattle.xf_local.specs.declared.answer.Inbound.{Inbound}
use Rattle.xf_local.specs.declared.answer.Inbound.TheVariants as inward
use Rattle.xf_local.specs.declared.answer.Outbound.{Outbound}
use Rattle.xf_local.specs.declared.answer.Outbound.TheVariants as outward

-- an answer, inward or outward
pub data Answered : Type 0 where
  IsDead : Answered
  WantsTurn : Answered
  Replies : (r : Reply) → Answered

-- an answer to a packet
abbrev pub inward_shown : Inbound → Answered
inward_shown inward.Dead = IsDead
inward_shown inward.NeedsTurn = WantsTurn
inward_shown (inward.Answer r) = Replies r

-- an answer to an output
abbrev pub outward_shown : Outbound → Answered
outward_shown outward.Dead = IsDead
outward_shown outward.NeedsTurn = WantsTurn
outward_shown (outward.Answer r) = Replies r

-- only the owner of the database's turn may give the reply: it ends the state, or makes it dying
abbrev pub needs_turn : Reply → Bool
needs_turn reply.Expired = true
needs_turn other = says_soft other

-- the answer where the turn is held: the machine's reply
abbrev pub settled_answer : LocalView → Traffic → Answered
settled_answer value.Dead t = IsDead
settled_answer (Live l) t = Replies (step_of l t).reply

-- the value after it: what is left in the machine
abbrev pub settled_value : LocalView → Traffic → LocalView
settled_value value.Dead t = value.Dead
settled_value (Live l) t = left_in (step_of l t).machine

-- the machine's reply to a listed state's traffic needs the turn
abbrev pub waits : LocalView → Traffic → Bool
waits value.Dead t = false
waits (Live l) t = needs_turn (step_of l t).reply

-- the answer without the turn: the machine's reply, unless it needs the turn
abbrev pub tried_answer : LocalView → Traffic → Answered
tried_answer v t = if waits v t then WantsTurn else settled_answer v t

-- the value after it: as before, where the reply needs the turn
abbrev pub tried_value : LocalView → Traffic → LocalView
tried_value v t = if waits v t then v else settled_value v t

-- answer and value are those where the turn is held
pub record Settles (answered : Answered) (old new : LocalView) (t : Traffic) : Type 0 where
  pub answer : answered ≡ settled_answer old t
  pub value : new ≡ settled_value old t

-- answer and value are those without the turn
pub record Tries (answered : Answered) (old new : LocalView) (t : Traffic) : Type 0 where
  pub answer : answered ≡ tried_answer old t
  pub value : new ≡ tried_value old t

-- a listed state was treated as the machine says; where it ends, nothing is left
pub record Treats (did : Treatment) (old new : LiveView) (t : Traffic) : Type 0 where
  pub reply : did.reply ≡ (step_of old t).reply
  pub left : left_in (step_of old t).machine ≡ (if did.ends then value.Dead else Live new)
