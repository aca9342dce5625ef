use Rattle.std.proofs.Common.{refl, ap, arith}
use Rattle.xf_types.specs.declared.call.Call.TheVariants.{PolicyDeleteAll}
use Rattle.xf_types.specs.PolicyList.{policy_meets}
use Rattle.xf_types.specs.PolicyRules.{policy_deleteall}
use Rattle.xf_parts.specs.Held.{all_held}
use Rattle.xf_cells.specs.Backs.{Lasts}
use Rattle.xf_calls.proofs.Changed.{policies_answer, policies_step}
use Rattle.xf_calls.proofs.Rules.{only_removed}
use Rattle.xf_calls.proofs.Wholes.{stands_now, policies_stood, frame_of, after_policies}
use Rattle.xf_calls.proofs.database.Database.policy_deleteall.Goals as goal

pub policy_deleteall-requires : goal.policy_deleteall-requires
policy_deleteall-requires c = record {
  fits = c.self.invariant.fits.policies;
  hidden = omega arith;
  back = Lasts refl;
  stood = policies_stood c.self.invariant;
  pool = c.self.invariant.policy_slots;
}

pub invariant_of-self : goal.invariant_of-self
invariant_of-self c =
    let n = c.args.self.now in
    let st = stands_now c.self.invariant c.self.view_is in
    let frame = frame_of c.policy_deleteall.ensures.others in
    let same = ap all_held c.policy_deleteall.ensures.rest in
    after_policies c.self.invariant frame same
    (policies_answer (PolicyDeleteAll c.args.filter.now) (λ t. policy_deleteall t c.args.filter.now) c.self.invariant.fits frame same (only_removed n.shown (policy_meets c.args.filter.now)) refl
    (c.policy_deleteall.ensures.plain n.shown st.policies st.on_policies) (c.policy_deleteall.ensures.answer n.shown st.policies st.on_policies) st)
    (c.policy_deleteall.ensures.pool refl)

pub returns : goal.returns
returns c =
    let n = c.args.self.now in
    let st = stands_now c.self.invariant c.self.view_is in
    policies_step (PolicyDeleteAll c.args.filter.now) (λ t. policy_deleteall t c.args.filter.now) c.self.invariant.fits c.self.invariant.turns (frame_of c.policy_deleteall.ensures.others)
    (ap all_held c.policy_deleteall.ensures.rest) (only_removed n.shown (policy_meets c.args.filter.now)) refl
    (c.policy_deleteall.ensures.plain n.shown st.policies st.on_policies) (c.policy_deleteall.ensures.answer n.shown st.policies st.on_policies) st
