use Rattle.std.proofs.Common.{arith, ◌++◌}
use Rattle.std.proofs.KnownBytes.{Appends-trans}
use Rattle.xf_run.proofs.Parts.{piece_more, PartOf-piece}
use Rattle.xf_run.proofs.output.write_lines.Goals as goal

pub lines-preserved : goal.lines-preserved
lines-preserved g c =
    let front = c.lines.invariant.text.0 in
    let line = c.split_at.result.0.now in
    record {
      text = (
        front ++ line,
        piece_more c.end_of_line.result c.args.text.now front c.lines.rest.now line c.split_at.result.1.now c.lines.invariant.text.1
            c.split_at.ensures.front c.split_at.ensures.back,
        Appends-trans _ _ _ front line c.lines.invariant.text.2 c.in-Ok.ensures.text,
      );
      later = omega (arith, c.in-Ok.ensures.later);
    }

pub returns-in-Err-clause-part : goal.returns-in-Err-clause-part
returns-in-Err-clause-part g c =
    PartOf-piece c.end_of_line.result c.args.text.now c.lines.invariant.text.0 c.lines.rest.now c.split_at.result.0.now
    c.split_at.result.1.now _ _ _ c.lines.invariant.text.1 c.split_at.ensures.front c.split_at.ensures.back
    c.lines.invariant.text.2 c.in-Err.ensures.part
