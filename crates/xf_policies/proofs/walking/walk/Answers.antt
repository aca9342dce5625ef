use Rattle.std.proofs.Common.{ℕ, List, Option, sym, ◌∙◌, subst, arith}
use Rattle.xf_types.specs.declared.policy.Policy.{Policy}
use Rattle.xf_inexact.specs.Whole.{SpdStands}
use Rattle.xf_policies.specs.Visits.{Walked}
use Rattle.xf_policies.proofs.Gathered.{not_err, not_both}
use Rattle.xf_policies.proofs.Shown.{walked_begins, walked_goes, walked_ends, walked_stops}
use Rattle.xf_policies.proofs.walking.walk.Goals as goal

pub slots-init : goal.slots-init
slots-init g c =
    let first = c.first_slot-at in
    let n = first.ensures.loads in
    record {
      size = first.ensures.size;
      begun = first.ensures.begun;
      rest = first.ensures.rest;
      among = first.ensures.among;
      few = omega (arith, n);
      below = first.ensures.below;
      walked = λ image s es agrees st. walked_begins g.V.Visitor.goes c.args.visitor.now c.args.spd.now.area image s es first.result st (first.ensures.answer image s es agrees st);
    }

pub slots-preserved : goal.slots-preserved
slots-preserved g c =
    let one = c.policy-policy in
    let next = c.next_slot-at in
    let seen = c.visit_some in
    let k = c.slots.invariant in
    let f = k.few in
    let n = one.ensures.loads in
    let m = next.ensures.loads in
    let t = c.slots-test.true in
    record {
      size = next.ensures.size ∙ (one.ensures.size ∙ k.size);
      begun = next.ensures.begun ∙ (one.ensures.begun ∙ k.begun);
      rest = next.ensures.rest ∙ (one.ensures.rest ∙ k.rest);
      among = record { among = λ image h. k.among.among image (one.ensures.among.among image (next.ensures.among.among image h)) };
      few = omega (arith, f, n, m, t);
      below = next.ensures.below;
      walked = λ image s es agrees st.
          let there = next.ensures.among.among image agrees in
          let here = one.ensures.among.among image there in
          walked_goes g.V.Visitor.goes c.args.visitor.now c.slots.visitor seen.new.visitor es c.in-Some.slot next.result c.slots.left
          (subst (λ (o : Option ℕ). Walked g.V.Visitor.goes c.args.visitor.now c.slots.visitor es o c.slots.left) c.in-Some.is (k.walked image s es here st))
          (λ front back p e. next.ensures.answer image s front back p agrees (subst (λ (xs : List (ℕ × Policy)). SpdStands c.args.spd.now.area image s xs) e st))
          (λ front back p e. not_err seen.result (g.V.Visitor.goes c.slots.visitor p seen.new.visitor) (sym c.is_err.ensures.value ∙ c.if-is_err.false)
          (seen.ensures.goes p (one.ensures.answer image s front back p there (subst (λ (xs : List (ℕ × Policy)). SpdStands c.args.spd.now.area image s xs) e st))));
    }

pub returns-then-is_err-clause-sure : goal.returns-then-is_err-clause-sure
returns-then-is_err-clause-sure g c = λ e. absurd (not_both c.visit_some.result (c.visit_some.ensures.sure e) (sym c.is_err.ensures.value ∙ c.if-is_err.true))

pub returns-in_default-clause-visited : goal.returns-in_default-clause-visited
returns-in_default-clause-visited g c = λ image s es agrees st.
    walked_stops g.V.Visitor.goes c.args.visitor.now c.slots.visitor c.args.spd.now.area image s es c.slots.at c.slots.left st c.in_default.is (c.slots.invariant.walked image s es agrees st)

pub returns-clause-visited : goal.returns-clause-visited
returns-clause-visited g c = λ image s es agrees st.
    let f = c.slots-test.false in
    walked_ends g.V.Visitor.goes c.args.visitor.now c.slots.visitor c.args.spd.now.area image s es c.slots.at c.slots.left st (omega (arith, f)) (c.slots.invariant.walked image s es agrees st)
