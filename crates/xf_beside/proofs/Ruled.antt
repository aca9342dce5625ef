-- What all that leave at once leave.
use Rattle.std.proofs.Common.{◌≡◌, ℕ, List, refl, ap, sym, ◌∙◌}
use Rattle.xf_types.specs.declared.call.Reply.TheVariants as reply
use Rattle.xf_types.specs.Machine.{Machine, Shown}
use Rattle.xf_types.specs.PolicyRules.{policies_removed}
use Rattle.xf_types.specs.Steps.{step, rule_of, ByShown}
use Rattle.xf_image.specs.declared.area.PolicyArea.{PolicyArea}
use Rattle.xf_beside.specs.declared.leaving.Leaving.{Leaving}
use Rattle.xf_beside.specs.declared.leaving.Leaving.TheVariants.{Admitted, OfPtype}
use Rattle.xf_beside.specs.Leaving.{leaves, call_of}
use Rattle.xf_beside.specs.Standing.{StandsFor, Answers}
use Rattle.xf_beside.proofs.Kept.{ruled, reply_by}
use Rattle.xf_beside.proofs.Passed.{Removed}

leaving_rule : (s : Shown) (w : Leaving) → rule_of s (call_of w) ≡ ByShown (policies_removed s (leaves w))
leaving_rule s (Admitted f) = refl
leaving_rule s (OfPtype ptype) = refl

pub answered_removed : (a : PolicyArea) (words image : List ℕ) (now : ℕ) (m : Machine) (w : Leaving) (removed : ℕ) → StandsFor a words now m
    → Removed a image (leaves w) m.shown removed → Answers a image now (reply.Removed removed) (step m (call_of w))
answered_removed a words image now m w removed st k = record {
  reply = ap (λ (n : ℕ). reply.Removed n) k.count ∙ sym (reply_by m (call_of w) (policies_removed m.shown (leaves w)) (leaving_rule m.shown w));
  stands = ruled a words image now m (call_of w) (policies_removed m.shown (leaves w)) k.entries st (leaving_rule m.shown w) refl k.stands;
}
