use Rattle.std.proofs.Common.{refl, ap, sym}
use Rattle.xf_types.specs.declared.call.Call.TheVariants.{PolicyList}
use Rattle.xf_types.specs.PolicyRules.{policy_list}
use Rattle.xf_parts.specs.Held.{all_held}
use Rattle.xf_calls.proofs.Reading.{reads}
use Rattle.xf_calls.proofs.Wholes.{stands_now, whole_read}
use Rattle.xf_calls.proofs.database.Database.policy_list.Goals as goal

pub policy_list-requires : goal.policy_list-requires
policy_list-requires c = c.self.invariant.fits.policies

pub invariant_of-self : goal.invariant_of-self
invariant_of-self c = whole_read (c.policy_list.ensures.among.among _ refl) (ap all_held c.policy_list.ensures.rest) c.self.invariant

pub returns : goal.returns
returns c =
    let n = c.args.self.now in
    let st = stands_now c.self.invariant c.self.view_is in
    let same = c.policy_list.ensures.among.among _ refl in
    reads c.self.inside.layout (PolicyList c.args.filter.now) (policy_list n.shown c.args.filter.now) c.self.view_is same (ap all_held c.policy_list.ensures.rest) refl refl (λ h. c.policy_list.ensures.answer _ n.shown st.policies (sym same) st.on_policies h)
