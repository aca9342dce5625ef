-- Turns: what one thread does, call by call, before its receipts are numbered.
use Rattle.std.specs.Prelude.{◌≡◌, ◌≢◌, ℕ, ◌+◌, Bool, false, List, [], ◌∷◌}
use Rattle.std.specs.List.{flat_map, list_any}
use Rattle.xf_types.specs.declared.call.Call.{Call}
use Rattle.xf_types.specs.declared.call.Place.{Place}
use Rattle.xf_types.specs.declared.call.Receipt.{Receipt}
use Rattle.xf_types.specs.declared.call.Reply.{Reply}
use Rattle.xf_types.specs.declared.call.Reply.TheVariants.{NoMemory}
use Rattle.xf_types.specs.Codes.{is_refusal_of}
use Rattle.xf_types.specs.Machine.{Machine, outcome}
use Rattle.xf_types.specs.History.{is_contended}
use Rattle.xf_types.specs.Steps.{step}
use Rattle.xf_print.specs.Receipts.{answer_text}

-- a call that was made at its place, and the reply
pub record Turn : Type 0 where
  pub at : Place
  pub call : Call
  pub reply : Reply

-- the receipt of a turn with this number
abbrev pub receipt_of : ℕ → Turn → Receipt
receipt_of n t = record { number = n; worker = 0; at = t.at; call = t.call; reply = t.reply }

-- the receipts of turns, with the numbers from n on
abbrev pub receipts_from : ℕ → List Turn → List Receipt
receipts_from n [] = []
receipts_from n (t ∷ ts) = receipt_of n t ∷ receipts_from (n + 1) ts

-- the reply is the machine's, or want of memory, which leaves the machine; it never comes of other threads
pub record MayAnswer (before after : Machine) (c : Call) (reply : Reply) : Type 0 where
  pub answer : reply ≢ NoMemory → outcome reply after ≡ step before c
  pub memory : reply ≡ NoMemory → after ≡ before
  pub settled : is_contended reply ≡ false

-- the turns lead from one machine to another
abbrev pub Lead : Machine → List Turn → Machine → Type 0
Lead before [] after = before ≡ after
Lead before (t ∷ ts) after = (next : Machine) × MayAnswer before next t.call t.reply × Lead next ts after

-- one of the replies refuses its call
abbrev pub is_refused : List Turn → Bool
is_refused turns = list_any (λ t. is_refusal_of t.reply) turns

-- the lines of the replies
abbrev pub turns_text : List Turn → List ℕ
turns_text turns = flat_map (λ t. answer_text t.at t.reply) turns
