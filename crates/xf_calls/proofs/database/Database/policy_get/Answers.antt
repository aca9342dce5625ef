use Rattle.std.proofs.Common.{refl, ap, sym}
use Rattle.xf_types.specs.declared.call.Call.TheVariants.{PolicyGet}
use Rattle.xf_types.specs.PolicyRules.{policy_get}
use Rattle.xf_parts.specs.Held.{all_held}
use Rattle.xf_calls.proofs.Reading.{reads}
use Rattle.xf_calls.proofs.Rules.{get_stays}
use Rattle.xf_calls.proofs.Wholes.{stands_now, whole_read}
use Rattle.xf_calls.proofs.database.Database.policy_get.Goals as goal

pub policy_get-requires : goal.policy_get-requires
policy_get-requires c = c.self.invariant.fits.policies

pub invariant_of-self : goal.invariant_of-self
invariant_of-self c = whole_read (c.policy_get.ensures.among.among _ refl) (ap all_held c.policy_get.ensures.rest) c.self.invariant

pub returns : goal.returns
returns c =
    let n = c.args.self.now in
    let st = stands_now c.self.invariant c.self.view_is in
    let same = c.policy_get.ensures.among.among _ refl in
    reads c.self.inside.layout (PolicyGet c.args.key.now) (policy_get n.shown c.args.key.now) c.self.view_is same (ap all_held c.policy_get.ensures.rest) refl (get_stays n.shown c.args.key.now) (λ h. c.policy_get.ensures.answer _ n.shown st.policies (sym same) st.on_policies)
