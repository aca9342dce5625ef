-- What a call on policies answers, and what it makes of words that stand for a list.
use Rattle.std.specs.Prelude.{◌≡◌, ℕ, List, if◌then◌else◌}
use Rattle.xf_types.specs.declared.call.Reply.{Reply}
use Rattle.xf_types.specs.declared.call.Reply.TheVariants as reply
use Rattle.xf_types.specs.declared.policy.Policy.{Policy}
use Rattle.xf_types.specs.Changes.{Answer, shown_after}
use Rattle.xf_types.specs.History.{is_exception}
use Rattle.xf_types.specs.Machine.{Shown}
use Rattle.xf_image.specs.declared.area.PolicyArea.{PolicyArea}
use Rattle.xf_inexact.specs.Whole.{SpdStands}
use Rattle.xf_spd.specs.Replies.{IsFull}

-- the reply is the rule's; one for want of room is that of the machine whose room is less by the slots that wait
abbrev pub IsReplyOf : ℕ → Shown → (Shown → Answer) → Reply → Type 0
IsReplyOf held s rule (reply.Full live waiting) = IsFull s (λ t. (rule t).reply) held live waiting
IsReplyOf held s rule other = other ≡ (rule s).reply

-- what is shown afterwards: a reply that isn't the machine's leaves it as it was
abbrev pub shown_next : Shown → Answer → Reply → Shown
shown_next s rule given = if is_exception given then s else shown_after s rule.change

-- The reply is the rule's, and the words stand for what is shown afterwards.
pub record PolicyAnswers (a : PolicyArea) (words : List ℕ) (s : Shown) (held : ℕ) (given : Reply) (rule : Shown → Answer) : Type 0 where
  pub reply : IsReplyOf held s rule given
  pub entries : List (ℕ × Policy)
  pub stands : SpdStands a words (shown_next s (rule s) given) entries
