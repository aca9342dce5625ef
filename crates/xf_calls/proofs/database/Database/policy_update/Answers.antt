use Rattle.std.proofs.Common.{refl, ap}
use Rattle.xf_types.specs.declared.call.Call.TheVariants.{PolicyUpdate}
use Rattle.xf_types.specs.PolicyRules.{policy_update}
use Rattle.xf_parts.specs.Held.{all_held}
use Rattle.xf_calls.proofs.Changed.{policies_at, policies_answer, policies_step}
use Rattle.xf_calls.proofs.Rules.{only_update}
use Rattle.xf_calls.proofs.Wholes.{stands_now, stands_read, whole_read, after_policies}
use Rattle.xf_calls.proofs.database.Database.policy_update.Goals as goal

pub read-now-requires : goal.read-now-requires
read-now-requires c = c.self.invariant.fits.clock

pub policy_update-requires : goal.policy_update-requires
policy_update-requires c =
    let w = whole_read c.read-now.ensures.words (ap all_held c.read-now.ensures.rest) c.self.invariant in
    record { fits = w.fits.policies; spent = refl; below = c.self.invariant.policy_slots.below }

pub invariant_of-self : goal.invariant_of-self
invariant_of-self c =
    let n = c.args.self.now in
    let r = stands_now c.self.invariant c.self.view_is in
    let w = whole_read c.read-now.ensures.words (ap all_held c.read-now.ensures.rest) c.self.invariant in
    let st = stands_read c.read-now.ensures.words (ap all_held c.read-now.ensures.rest) r in
    let at = policies_at c.read-now.result r c.requires c.read-now.ensures.word in
    let same = ap all_held c.policy_update.ensures.rest in
    after_policies w c.policy_update.ensures.frame same
    (policies_answer (PolicyUpdate c.args.spec.now) (λ t. policy_update t c.args.spec.now) w.fits c.policy_update.ensures.frame same (only_update n.shown c.args.spec.now) refl
    (c.policy_update.ensures.plain n.shown st.policies refl at st.on_policies w.policy_slots)
    (c.policy_update.ensures.answer n.shown st.policies at st.on_policies w.policy_slots) st)
    (c.policy_update.ensures.pool n.shown st.policies refl at st.on_policies w.policy_slots)

pub returns : goal.returns
returns c =
    let n = c.args.self.now in
    let r = stands_now c.self.invariant c.self.view_is in
    let w = whole_read c.read-now.ensures.words (ap all_held c.read-now.ensures.rest) c.self.invariant in
    let st = stands_read c.read-now.ensures.words (ap all_held c.read-now.ensures.rest) r in
    let at = policies_at c.read-now.result r c.requires c.read-now.ensures.word in
    policies_step (PolicyUpdate c.args.spec.now) (λ t. policy_update t c.args.spec.now) w.fits w.turns c.policy_update.ensures.frame (ap all_held c.policy_update.ensures.rest)
    (only_update n.shown c.args.spec.now) refl (c.policy_update.ensures.plain n.shown st.policies refl at st.on_policies w.policy_slots)
    (c.policy_update.ensures.answer n.shown st.policies at st.on_policies w.policy_slots) st
