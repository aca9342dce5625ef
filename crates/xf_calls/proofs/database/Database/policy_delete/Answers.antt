use Rattle.std.proofs.Common.{refl, ap}
use Rattle.xf_types.specs.declared.call.Call.TheVariants.{PolicyDelete}
use Rattle.xf_types.specs.PolicyRules.{policy_delete}
use Rattle.xf_spd.proofs.Fitting.{named_back}
use Rattle.xf_parts.specs.Held.{all_held}
use Rattle.xf_calls.proofs.Changed.{policies_answer, policies_step}
use Rattle.xf_calls.proofs.Rules.{only_delete}
use Rattle.xf_calls.proofs.Wholes.{stands_now, after_policies}
use Rattle.xf_calls.proofs.database.Database.policy_delete.Goals as goal

pub policy_delete-requires : goal.policy_delete-requires
policy_delete-requires c = record {
  fits = c.self.invariant.fits.policies;
  back = named_back _ _ _ _ _ _ _ _ c.args.key.now c.self.invariant.stands.on_policies c.self.invariant.policy_slots;
}

pub invariant_of-self : goal.invariant_of-self
invariant_of-self c =
    let n = c.args.self.now in
    let st = stands_now c.self.invariant c.self.view_is in
    let same = ap all_held c.policy_delete.ensures.rest in
    after_policies c.self.invariant c.policy_delete.ensures.frame same
    (policies_answer (PolicyDelete c.args.key.now) (λ t. policy_delete t c.args.key.now) c.self.invariant.fits c.policy_delete.ensures.frame same
    (only_delete n.shown c.args.key.now) refl (c.policy_delete.ensures.plain n.shown st.policies st.on_policies)
    (c.policy_delete.ensures.answer n.shown st.policies st.machine.shown.policies st.on_policies) st)
    (c.policy_delete.ensures.pool n.shown st.policies refl st.on_policies c.self.invariant.policy_slots)

pub returns : goal.returns
returns c =
    let n = c.args.self.now in
    let st = stands_now c.self.invariant c.self.view_is in
    policies_step (PolicyDelete c.args.key.now) (λ t. policy_delete t c.args.key.now) c.self.invariant.fits c.self.invariant.turns c.policy_delete.ensures.frame
    (ap all_held c.policy_delete.ensures.rest) (only_delete n.shown c.args.key.now) refl (c.policy_delete.ensures.plain n.shown st.policies st.on_policies)
    (c.policy_delete.ensures.answer n.shown st.policies st.machine.shown.policies st.on_policies) st
