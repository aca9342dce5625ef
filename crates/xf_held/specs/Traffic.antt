-- What one state answered, and what became of it.
use Rattle.std.specs.Prelude.{◌≡◌}
use Rattle.xf_types.specs.TrafficRules.{Treated}
use Rattle.xf_held.specs.declared.traffic.Treatment.{Treatment}
use Rattle.xf_held.specs.View.{HeldView, fated, is_end}

-- the reply, the state afterwards, and whether it ends are those of the rule
pub record Does (did : Treatment) (old new : HeldView) (rule : Treated) : Type 0 where
  pub reply : did.reply ≡ rule.reply
  pub ends : did.ends ≡ is_end rule.fate
  pub state : new ≡ fated old rule.fate
