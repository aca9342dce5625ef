use Rattle.std.proofs.Common.{arith, refl, ap, subst, ◌≡◌, length, take, List, ℕ, ◌∙◌}
use Rattle.std.proofs.Math.Seq.{take-length}
use Rattle.xf_proto.specs.declared.step.Step.{Step}
use Rattle.xf_proto.specs.declared.step.StepFault.TheVariants as fault
use Rattle.xf_proto.specs.Table.{row_of, LeadTo}
use Rattle.xf_proto.proofs.Leads.{one-further, stops-here}
use Rattle.xf_proto.proofs.Faults.{at_first, row_there}
use Rattle.xf_proto.proofs.state.State.run.Goals as goal

pub loop-at-init : goal.loop-at-init
loop-at-init c = (refl, omega arith)

pub step-requires : goal.step-requires
step-requires c = let e = c.loop-at.invariant.1 in let r = c.requires.room in let lt = c.loop-at-test.true in omega arith

pub returns-in-Err-Illegal : goal.returns-in-Err-Illegal
returns-in-Err-Illegal c =
    let k = c.in-Err-Illegal in
    let first = at_first c.step.result k.field-0 k.field-0-0 k.is k.field-0-is k.ensures.one in
    record { ok = tt; fault = stops-here c.args.self.now c.args.steps.now c.loop-at.at c.loop-at.self c.index-steps-at.result c.loop-at-test.true c.index-steps-at.is c.loop-at.invariant (fault.Illegal c.loop-at.at) c.step.new.self refl k.ensures.err (c.step.ensures.illegal.0 first) }

pub returns-in-Err-NoMemory : goal.returns-in-Err-NoMemory
returns-in-Err-NoMemory c =
    let k = c.in-Err-NoMemory in
    let row = row_there c.step.result k.field-0 k.field-0-0 k.is (row_of c.loop-at.self c.index-steps-at.result) k.field-0-is c.step.ensures.illegal.1 in
    record { ok = tt; fault = stops-here c.args.self.now c.args.steps.now c.loop-at.at c.loop-at.self c.index-steps-at.result c.loop-at-test.true c.index-steps-at.is c.loop-at.invariant (fault.NoMemory c.loop-at.at) c.step.new.self refl k.ensures.err row }

pub loop-at-preserved : goal.loop-at-preserved
loop-at-preserved c = one-further c.args.self.now c.args.steps.now c.loop-at.at c.loop-at.self c.index-steps-at.result c.loop-at-test.true c.index-steps-at.is c.loop-at.invariant c.step.new.self c.in-Ok.ensures.ok

pub returns-clause-ok : goal.returns-clause-ok
returns-clause-ok c =
    let ge = c.loop-at-test.false in
    let le = c.loop-at.auto.at-end in
    let same : c.loop-at.at ≡ length c.args.steps.now = omega arith in
    subst (λ (steps : List Step). LeadTo c.args.self.now steps c.loop-at.self) (ap (λ (n : ℕ). take n c.args.steps.now) same ∙ take-length c.args.steps.now) c.loop-at.invariant.0
