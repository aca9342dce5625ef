use Rattle.std.proofs.Common.{ℕ, ◌+◌, ◌<◌, List, ◌++◌, take, get_or, sym, ap, ◌∙◌, arith, subst}
use Rattle.xf_lex.specs.Lines.{line_limit}
use Rattle.xf_lex.specs.Quotes.{counted}
use Rattle.xf_batch.specs.declared.line_scan.LineScan.{LineScan}
use Rattle.xf_batch.specs.LineEnds.{has_feed}
use Rattle.xf_batch.specs.Scans.{Scans, IsWholeLine, IsLongFront}
use Rattle.xf_batch.proofs.Runs.{Scans-further}
use Rattle.xf_batch.proofs.Walking.{one_further, feed-end, Scans-end, Scans-long, Scans-more}
use Rattle.xf_batch.proofs.line_scan.LineScan.walk.Goals as goal

pub returns-then-ends_at : goal.returns-then-ends_at
returns-then-ends_at c = λ front before.
    let piece = c.args.piece.now in
    let i = c.bytes.i + c.take_run-i.result in
    let b = get_or piece i 0 in
    let s = c.take_run-i.new.self in
    let scans = Scans-further front piece c.bytes.i c.take_run-i.result s
    (c.take_run-i.ensures.scans (front ++ take c.bytes.i piece) (c.bytes.invariant.scans front before)) in (
      omega arith,
      omega arith,
      subst IsWholeLine (sym (one_further front piece i (omega arith)))
          (Scans-end (front ++ take i piece) s b scans (sym c.ends_at.ensures ∙ c.if-ends_at.true)),
      ap has_feed (one_further front piece i (omega arith))
          ∙ feed-end (front ++ take i piece) s b scans (sym c.ends_at.ensures ∙ c.if-ends_at.true),
    )

pub returns-then-self-gt-LINE_LIMIT : goal.returns-then-self-gt-LINE_LIMIT
returns-then-self-gt-LINE_LIMIT c = λ front before.
    let piece = c.args.piece.now in
    let i = c.bytes.i + c.take_run-i.result in
    let b = get_or piece i 0 in
    let s = c.take_run-i.new.self in
    let scans = Scans-further front piece c.bytes.i c.take_run-i.result s
    (c.take_run-i.ensures.scans (front ++ take c.bytes.i piece) (c.bytes.invariant.scans front before)) in
    let long : line_limit < s.length + counted s.quoting b = omega (arith, c.counted.ensures.count) in (
      i + 1,
      omega arith,
      subst IsLongFront (sym (one_further front piece i (omega arith)))
          (Scans-long (front ++ take i piece) s b scans (sym c.ends_at.ensures ∙ c.if-ends_at.false) long),
    )

pub bytes-preserved : goal.bytes-preserved
bytes-preserved c =
    let piece = c.args.piece.now in
    let i = c.bytes.i + c.take_run-i.result in
    let b = get_or piece i 0 in
    let s = c.take_run-i.new.self in
    record {
      scans = λ front before.
          let scans = Scans-further front piece c.bytes.i c.take_run-i.result s
          (c.take_run-i.ensures.scans (front ++ take c.bytes.i piece) (c.bytes.invariant.scans front before)) in
          let new : LineScan = record { quoting = c.after-self.result; length = s.length + c.counted.result } in
          subst (λ (l : List ℕ). Scans l new) (sym (one_further front piece i (omega arith)))
          (Scans-more (front ++ take i piece) s new b scans (sym c.ends_at.ensures ∙ c.if-ends_at.false)
          c.after-self.ensures (ap (λ n. s.length + n) c.counted.ensures.count) (omega arith));
      short = omega arith;
      within = omega arith;
    }
