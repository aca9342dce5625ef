use Rattle.std.proofs.Common.{refl, ap, arith}
use Rattle.xf_types.specs.declared.call.Call.TheVariants.{PolicyFlush}
use Rattle.xf_types.specs.Same.{meets_one, same_ptype}
use Rattle.xf_types.specs.PolicyRules.{policy_flush}
use Rattle.xf_parts.specs.Held.{all_held}
use Rattle.xf_cells.specs.Backs.{Lasts}
use Rattle.xf_calls.proofs.Changed.{policies_answer, policies_step}
use Rattle.xf_calls.proofs.Rules.{only_removed}
use Rattle.xf_calls.proofs.Wholes.{stands_now, policies_stood, frame_of, after_policies}
use Rattle.xf_calls.proofs.database.Database.policy_flush.Goals as goal

pub policy_flush-requires : goal.policy_flush-requires
policy_flush-requires c = record {
  fits = c.self.invariant.fits.policies;
  hidden = omega arith;
  back = Lasts refl;
  stood = policies_stood c.self.invariant;
  pool = c.self.invariant.policy_slots;
}

pub invariant_of-self : goal.invariant_of-self
invariant_of-self c =
    let n = c.args.self.now in
    let st = stands_now c.self.invariant c.self.view_is in
    let frame = frame_of c.policy_flush.ensures.others in
    let same = ap all_held c.policy_flush.ensures.rest in
    after_policies c.self.invariant frame same
    (policies_answer (PolicyFlush c.args.ptype) (λ t. policy_flush t c.args.ptype) c.self.invariant.fits frame same (only_removed n.shown (λ p. meets_one same_ptype c.args.ptype p.spec.ptype)) refl
    (c.policy_flush.ensures.plain n.shown st.policies st.on_policies) (c.policy_flush.ensures.answer n.shown st.policies st.on_policies) st)
    (c.policy_flush.ensures.pool refl)

pub returns : goal.returns
returns c =
    let n = c.args.self.now in
    let st = stands_now c.self.invariant c.self.view_is in
    policies_step (PolicyFlush c.args.ptype) (λ t. policy_flush t c.args.ptype) c.self.invariant.fits c.self.invariant.turns (frame_of c.policy_flush.ensures.others)
    (ap all_held c.policy_flush.ensures.rest) (only_removed n.shown (λ p. meets_one same_ptype c.args.ptype p.spec.ptype)) refl
    (c.policy_flush.ensures.plain n.shown st.policies st.on_policies) (c.policy_flush.ensures.answer n.shown st.policies st.on_policies) st
