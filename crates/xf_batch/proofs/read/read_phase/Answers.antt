use Rattle.std.proofs.Common.{◌≡◌, true, false, not, refl, ap, sym, ◌∙◌, arith}
use Rattle.std.proofs.lemmas.Result.{err_from_is_err_and}
use Rattle.xf_read.specs.Items.{asked_by, fields_read}
use Rattle.xf_batch.specs.declared.fault.PhaseFault.TheVariants.{ReadFault}
use Rattle.xf_batch.specs.Batch.{effect_of}
use Rattle.xf_batch.proofs.Gathered.{threads-count}
use Rattle.xf_batch.proofs.Phasing.{EndsLast-between, Reached-start, Reached-more}
use Rattle.xf_batch.proofs.PhaseEnds.{IsPhaseOf, facts-last, facts-sync, given-fault, given-last, given-refused, given-sync, HasPassed-last, HasPassed-sync, no_source}
use Rattle.xf_batch.proofs.read.read_phase.Goals as goal

pub returns-in_err-gather-clause-phase : goal.returns-in_err-gather-clause-phase
returns-in_err-gather-clause-phase g c =
    let p = err_from_is_err_and c.from_residual.result c.from_residual.ensures.1 in
    rw (p.1, p.2, c.in_err-gather.ensures.memory) tt

pub returns-in_err-gather-clause-cause : goal.returns-in_err-gather-clause-cause
returns-in_err-gather-clause-cause g c =
    let p = err_from_is_err_and c.from_residual.result c.from_residual.ensures.1 in
    rw (p.1, p.2, c.in_err-gather.ensures.memory) (λ read. absurd cc)

pub lines-init : goal.lines-init
lines-init g c = record {
  reached =
      Reached-start c.args.workers c.args.now c.args.r.unread (g.S.Source.left c.args.src.now) (g.S.Source.faults c.args.src.now)
      c.in_ok-gather.gather c.in_ok-gather.ensures.gathers (EndsLast-between c.args.r.unread c.args.r.facts.all);
  later = omega arith;
}

pub next_item-requires : goal.next_item-requires
next_item-requires g c = c.lines.invariant.reached.came.last

pub put_asked-requires : goal.put_asked-requires
put_asked-requires g c =
    let r = c.lines.invariant.reached in
    omega (arith, c.requires.some, threads-count c.args.workers c.lines.gather r.gathered r.gathers)

pub returns-in_err-asked-clause-phase : goal.returns-in_err-asked-clause-phase
returns-in_err-asked-clause-phase g c =
    let p = err_from_is_err_and c.from_residual-in_err-asked.result c.from_residual-in_err-asked.ensures.1 in
    let r = c.lines.invariant.reached in
    rw (p.1, p.2)
    (given-fault c.args.workers c.args.now c.args.r.unread c.lines.unread c.next_item.new.unread
    (g.S.Source.left c.args.src.now) (g.S.Source.left c.lines.src) (g.S.Source.left c.next_item.new.src) _ _ _
    c.lines.gather (fields_read c.next_item.new.lines) c.in_err-asked.field-0.0 r c.in_err-asked.ensures.item)

pub returns-in_err-put_asked-clause-phase : goal.returns-in_err-put_asked-clause-phase
returns-in_err-put_asked-clause-phase g c =
    let p = err_from_is_err_and c.from_residual-in_err-put_asked.result c.from_residual-in_err-put_asked.ensures.1 in
    let r = c.lines.invariant.reached in
    rw (p.1, p.2)
    (given-refused c.args.workers c.args.now c.args.r.unread c.lines.unread c.next_item.new.unread
    (g.S.Source.left c.args.src.now) (g.S.Source.left c.lines.src) (g.S.Source.left c.next_item.new.src) _ _ _
    c.lines.gather c.put_asked.new.self c.in-Some.asked (asked_by c.in-Some.asked.head (fields_read c.next_item.new.lines)) c.in_err-put_asked.field-0.0 r (rw c.in-Some.is at c.in_ok-asked.ensures.item)
    (c.in_err-put_asked.ensures c.args.workers r.gathered r.gathers))

pub returns-in_err-put_asked-clause-cause : goal.returns-in_err-put_asked-clause-cause
returns-in_err-put_asked-clause-cause g c =
    let p = err_from_is_err_and c.from_residual-in_err-put_asked.result c.from_residual-in_err-put_asked.ensures.1 in
    let r = c.lines.invariant.reached in
    rw (p.1, p.2)
    (λ read.
    let same : c.in_err-put_asked.field-0.0 ≡ ReadFault = cc in
    absurd
    (no_source c.args.workers c.in-Some.asked.line r.gathered (effect_of c.args.now r.gathered c.in-Some.asked.line (asked_by c.in-Some.asked.head (fields_read c.next_item.new.lines))) c.put_asked.new.self
    (rw same at (c.in_err-put_asked.ensures c.args.workers r.gathered r.gathers))))

pub returns-then-not-branch-clause-phase : goal.returns-then-not-branch-clause-phase
returns-then-not-branch-clause-phase g c =
    let r = c.lines.invariant.reached in
    let is : IsPhaseOf c.put_asked.new.self true (not c.next_item.new.unread.ended) c.finish-phase.result =
    record { threads = c.finish-phase.ensures.threads; synced = c.finish-phase.ensures.synced; more = c.finish-phase.ensures.more } in
    given-sync c.args.workers c.args.now c.args.r.unread c.lines.unread
    (g.S.Source.left c.args.src.now) (g.S.Source.left c.lines.src) (g.S.Source.left c.next_item.new.src) _ _ _
    c.lines.gather c.put_asked.new.self c.in-Some.asked (asked_by c.in-Some.asked.head (fields_read c.next_item.new.lines)) c.next_item.new.unread c.finish-phase.result r (rw c.in-Some.is at c.in_ok-asked.ensures.item)
    (rw c.if-not-branch.true at (c.in_ok-put_asked.ensures c.args.workers r.gathered r.gathers)) is

pub returns-then-not-branch-clause-passed : goal.returns-then-not-branch-clause-passed
returns-then-not-branch-clause-passed g c =
    let r = c.lines.invariant.reached in
    let is : IsPhaseOf c.put_asked.new.self true (not c.next_item.new.unread.ended) c.finish-phase.result =
    record { threads = c.finish-phase.ensures.threads; synced = c.finish-phase.ensures.synced; more = c.finish-phase.ensures.more } in
    HasPassed-sync c.args.workers c.args.now c.args.r.unread c.lines.unread c.next_item.new.unread
    (g.S.Source.left c.args.src.now) (g.S.Source.left c.lines.src) (g.S.Source.left c.next_item.new.src) _ _ _
    c.lines.gather c.put_asked.new.self c.in-Some.asked (asked_by c.in-Some.asked.head (fields_read c.next_item.new.lines)) c.finish-phase.result c.requires.some r (rw c.in-Some.is at c.in_ok-asked.ensures.item)
    (rw c.if-not-branch.true at (c.in_ok-put_asked.ensures c.args.workers r.gathered r.gathers)) is

pub returns-then-not-branch-clause-end : goal.returns-then-not-branch-clause-end
returns-then-not-branch-clause-end g c = λ rightly.
    let asked = rw c.in-Some.is at c.in_ok-asked.ensures.item in
    asked.read_on.end (c.lines.invariant.reached.came.end rightly)

pub invariant_of-result : goal.invariant_of-result
invariant_of-result g c =
    let asked = rw c.in-Some.is at c.in_ok-asked.ensures.item in
    record { facts = facts-sync asked.line c.next_item.new.unread asked.ends }

pub lines-preserved : goal.lines-preserved
lines-preserved g c =
    let r = c.lines.invariant.reached in
    record {
      reached =
          Reached-more c.args.workers c.args.now c.args.r.unread c.lines.unread c.next_item.new.unread
          (g.S.Source.left c.args.src.now) (g.S.Source.left c.lines.src) (g.S.Source.left c.next_item.new.src) _ _ _
          c.lines.gather c.put_asked.new.self c.in-Some.asked (asked_by c.in-Some.asked.head (fields_read c.next_item.new.lines)) r (rw c.in-Some.is at c.in_ok-asked.ensures.item)
          (rw c.if-not-branch.false at (c.in_ok-put_asked.ensures c.args.workers r.gathered r.gathers));
      later = omega (arith, c.lines.invariant.later, c.in_ok-asked.ensures.later);
    }

pub returns-clause-phase : goal.returns-clause-phase
returns-clause-phase g c =
    let r = c.lines.invariant.reached in
    let none = rw c.in_default.is at c.in_ok-asked.ensures.item in
    let is : IsPhaseOf c.lines.gather false (not c.next_item.new.unread.ended) c.finish-phase-2.result =
    record { threads = c.finish-phase-2.ensures.threads; synced = c.finish-phase-2.ensures.synced; more = c.finish-phase-2.ensures.more ∙ ap not (sym none.all.ended) } in
    given-last c.args.workers c.args.now c.args.r.unread c.lines.unread
    (g.S.Source.left c.args.src.now) (g.S.Source.left c.lines.src) (g.S.Source.left c.next_item.new.src) _ _ _
    c.lines.gather c.next_item.new.unread c.finish-phase-2.result r none is

pub invariant_of-result-2 : goal.invariant_of-result-2
invariant_of-result-2 g c =
    let none = rw c.in_default.is at c.in_ok-asked.ensures.item in
    record { facts = facts-last c.next_item.new.unread none.all }

pub returns-clause-passed : goal.returns-clause-passed
returns-clause-passed g c =
    let r = c.lines.invariant.reached in
    let none = rw c.in_default.is at c.in_ok-asked.ensures.item in
    let is : IsPhaseOf c.lines.gather false (not c.next_item.new.unread.ended) c.finish-phase-2.result =
    record { threads = c.finish-phase-2.ensures.threads; synced = c.finish-phase-2.ensures.synced; more = c.finish-phase-2.ensures.more ∙ ap not (sym none.all.ended) } in
    HasPassed-last c.args.workers c.args.now c.args.r.unread c.lines.unread c.next_item.new.unread
    (g.S.Source.left c.args.src.now) (g.S.Source.left c.lines.src) (g.S.Source.left c.next_item.new.src) _ _ _
    c.lines.gather c.finish-phase-2.result c.requires.some r none is

pub returns-clause-end : goal.returns-clause-end
returns-clause-end g c = λ rightly e.
    let none = rw c.in_default.is at c.in_ok-asked.ensures.item in
    none.read_on.end (c.lines.invariant.reached.came.end rightly) refl
