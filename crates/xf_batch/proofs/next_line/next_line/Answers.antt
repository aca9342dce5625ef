use Rattle.std.proofs.Common.{◌≡◌, ◌+◌, ◌-◌, false, Err, List, ℕ, length, take, drop, nat_le, min, refl, sym, ap, ◌∙◌, subst, arith, length-take, length-append}
use Rattle.std.proofs.lemmas.List.{take_min}
use Rattle.std.proofs.lemmas.Result.{err_from_is_err_and}
use Rattle.xf_batch.specs.declared.fault.PhaseFault.{PhaseFault}
use Rattle.xf_batch.specs.Batch.{limit}
use Rattle.xf_batch.specs.Coming.{room_of}
use Rattle.xf_batch.specs.Reading.{unread_bytes}
use Rattle.xf_batch.specs.Scans.{Scans}
use Rattle.xf_batch.proofs.Lines.{neither}
use Rattle.xf_batch.proofs.Finding.{BreaksOff-filled, Grows-filled, Grows-start, Joins, IsLongNext-joined, IsNextLine-joined, IsNextLine-last, Scans-joined, unfinished_all, walked-filled}
use Rattle.xf_batch.proofs.next_line.next_line.Goals as goal

pub returns-in-Ends-clause-next : goal.returns-in-Ends-clause-next
returns-in-Ends-clause-next g c =
    let u = c.search.unread in
    let seen = c.front-seen.result.now in
    let kept = c.search.invariant in
    let piece = take (length seen - c.search.walked) (drop c.search.walked seen) in
    let joins : Joins (unread_bytes u) seen piece (room_of u) c.search.walked =
    record { front = c.front-seen.ensures; back = refl; within = kept.within; fits = kept.seen } in
    let found = c.in-Ends.ensures (take c.search.walked (unread_bytes u)) kept.scans in
    IsNextLine-joined u seen piece c.search.walked c.in-Ends.size joins found.0 found.1 found.2 found.3

pub returns-in-Long-clause-next : goal.returns-in-Long-clause-next
returns-in-Long-clause-next g c =
    let u = c.search.unread in
    let seen = c.front-seen.result.now in
    let kept = c.search.invariant in
    let piece = take (length seen - c.search.walked) (drop c.search.walked seen) in
    let joins : Joins (unread_bytes u) seen piece (room_of u) c.search.walked =
    record { front = c.front-seen.ensures; back = refl; within = kept.within; fits = kept.seen } in
    let found = c.in-Long.ensures (take c.search.walked (unread_bytes u)) kept.scans in
    λ rest. IsLongNext-joined u rest seen piece c.search.walked found.0 joins found.1 found.2

pub returns-then-walked-gt0-clause-next : goal.returns-then-walked-gt0-clause-next
returns-then-walked-gt0-clause-next g c =
    let u = c.search.unread in
    let seen = c.front-seen.result.now in
    let kept = c.search.invariant in
    let piece = take (length seen - c.search.walked) (drop c.search.walked seen) in
    let joins : Joins (unread_bytes u) seen piece (room_of u) c.search.walked =
    record { front = c.front-seen.ensures; back = refl; within = kept.within; fits = kept.seen } in
    let scans = Scans-joined u c.walk.new.self seen piece c.search.walked joins
    (c.in-GoesOn.ensures (take c.search.walked (unread_bytes u)) kept.scans) in
    IsNextLine-last u (length seen) (sym c.is_all.ensures ∙ c.if-is_all.true) (ap length c.front-seen.ensures)
    c.if-walked-gt0.true scans.goes_on

pub search-init : goal.search-init
search-init g c = record {
  grows = Grows-start c.args.unread.now (g.S.Source.left c.args.src.now) (g.S.Source.faults c.args.src.now) c.requires;
  scans = c.new-scan.ensures;
  within = omega arith;
  seen = omega arith;
  later = omega arith;
}

pub returns-in_err-fill-clause-breaks : goal.returns-in_err-fill-clause-breaks
returns-in_err-fill-clause-breaks g c =
    let p = err_from_is_err_and c.from_residual.result c.from_residual.ensures.1 in
    let u = c.search.unread in
    let seen = c.front-seen.result.now in
    let kept = c.search.invariant in
    let piece = take (length seen - c.search.walked) (drop c.search.walked seen) in
    let joins : Joins (unread_bytes u) seen piece (room_of u) c.search.walked =
    record { front = c.front-seen.ensures; back = refl; within = kept.within; fits = kept.seen } in
    let goes_on : u.ended ≡ false = (neither u.ended (nat_le (room_of u) (length (unread_bytes u))) (sym c.is_all.ensures ∙ c.if-is_all.false)).0 in
    rw (p.1, p.2)
    (BreaksOff-filled c.args.unread.now u (g.S.Source.left c.args.src.now) (g.S.Source.left c.search.src) (g.S.Source.left c.fill.new.src) _ _
    c.in_err-fill.field-0.0 goes_on
    (unfinished_all u c.walk.new.self (Scans-joined u c.walk.new.self seen piece c.search.walked joins
    (c.in-GoesOn.ensures (take c.search.walked (unread_bytes u)) kept.scans)) (sym c.is_all.ensures ∙ c.if-is_all.false))
    kept.grows c.in_err-fill.ensures.outside (λ same. c.in_err-fill.ensures.unread (ap (λ (e : PhaseFault). Err e) same)))

pub search-preserved : goal.search-preserved
search-preserved g c =
    let u = c.search.unread in
    let seen = c.front-seen.result.now in
    let kept = c.search.invariant in
    let filled = c.in_ok-fill.ensures.filled in
    let piece = take (length seen - c.search.walked) (drop c.search.walked seen) in
    let joins : Joins (unread_bytes u) seen piece (room_of u) c.search.walked =
    record { front = c.front-seen.ensures; back = refl; within = kept.within; fits = kept.seen } in
    let size : length seen ≡ min (room_of u) (length (unread_bytes u)) =
    ap length c.front-seen.ensures ∙ length-take (room_of u) (unread_bytes u) in
    let grown : length (unread_bytes c.fill.new.unread) ≡ length (unread_bytes u) + length filled.piece =
    ap length filled.bytes ∙ length-append (unread_bytes u) filled.piece in
    let room : room_of c.fill.new.unread ≡ room_of u = ap (λ k. limit + 1 - k) filled.before in
    let goes_on : u.ended ≡ false = (neither u.ended (nat_le (room_of u) (length (unread_bytes u))) (sym c.is_all.ensures ∙ c.if-is_all.false)).0 in
    let same : take (room_of u) (unread_bytes u) ≡ take (length seen) (unread_bytes c.fill.new.unread) =
    sym (walked-filled (unread_bytes u) (unread_bytes c.fill.new.unread) filled.piece (length seen) filled.bytes (omega (arith, size))
    ∙ ap (λ k. take k (unread_bytes u)) size
    ∙ take_min (room_of u) (unread_bytes u))
    in
    record {
      grows =
          Grows-filled c.args.unread.now u c.fill.new.unread (g.S.Source.left c.args.src.now) (g.S.Source.left c.search.src) (g.S.Source.left c.fill.new.src) _ _ _ goes_on
          (unfinished_all u c.walk.new.self (Scans-joined u c.walk.new.self seen piece c.search.walked joins
          (c.in-GoesOn.ensures (take c.search.walked (unread_bytes u)) kept.scans)) (sym c.is_all.ensures ∙ c.if-is_all.false))
          kept.grows filled;
      scans = subst (λ (l : List ℕ). Scans l c.walk.new.self) same
          (Scans-joined u c.walk.new.self seen piece c.search.walked joins
          (c.in-GoesOn.ensures (take c.search.walked (unread_bytes u)) kept.scans));
      within = omega (arith, size, grown);
      seen = omega (arith, size, room);
      later = omega (arith, kept.later, c.in_ok-fill.ensures.later);
    }
