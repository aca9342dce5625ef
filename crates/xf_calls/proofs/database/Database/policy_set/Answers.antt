use Rattle.std.proofs.Common.{refl, ap}
use Rattle.xf_types.specs.declared.call.Call.TheVariants.{PolicySet}
use Rattle.xf_types.specs.PolicyRules.{policy_set}
use Rattle.xf_parts.specs.Held.{all_held}
use Rattle.xf_calls.proofs.Changed.{policies_answer, policies_step}
use Rattle.xf_calls.proofs.Rules.{only_set}
use Rattle.xf_calls.proofs.Wholes.{stands_now, same_slots, after_policies}
use Rattle.xf_calls.proofs.database.Database.policy_set.Goals as goal

pub policy_set-requires : goal.policy_set-requires
policy_set-requires c = c.self.invariant.fits.policies

pub invariant_of-self : goal.invariant_of-self
invariant_of-self c =
    let n = c.args.self.now in
    let st = stands_now c.self.invariant c.self.view_is in
    let same = ap all_held c.policy_set.ensures.rest in
    after_policies c.self.invariant c.policy_set.ensures.frame same
    (policies_answer (PolicySet c.args.set.now) (λ t. policy_set t c.args.set.now) c.self.invariant.fits c.policy_set.ensures.frame same
    (only_set n.shown c.args.set.now) refl c.policy_set.ensures.done (c.policy_set.ensures.answer n.shown st.policies st.on_policies) st)
    (same_slots (c.policy_set.ensures.slots n.shown st.policies st.on_policies) c.self.invariant.policy_slots)

pub returns : goal.returns
returns c =
    let n = c.args.self.now in
    let st = stands_now c.self.invariant c.self.view_is in
    policies_step (PolicySet c.args.set.now) (λ t. policy_set t c.args.set.now) c.self.invariant.fits c.self.invariant.turns c.policy_set.ensures.frame
    (ap all_held c.policy_set.ensures.rest) (only_set n.shown c.args.set.now) refl c.policy_set.ensures.done
    (c.policy_set.ensures.answer n.shown st.policies st.on_policies) st
