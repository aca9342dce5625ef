use Rattle.std.proofs.Common.{sym, ap, ◌∙◌, arith}
use Rattle.xf_lex.specs.Lines.{Scanned}
use Rattle.xf_lex.specs.Shown.{scanned}
use Rattle.xf_lex.proofs.Runs.{run_taken}
use Rattle.xf_lex.proofs.scan.Scan.read_words.Goals as goal

pub bytes-preserved-then-count-gt0 : goal.bytes-preserved-then-count-gt0
bytes-preserved-then-count-gt0 c =
    let taken =
    run_taken (scanned c.bytes.self) c.bytes.rest.now c.run_length-count.result c.run_length-count.ensures.few c.if-count-gt0.true c.run_length-count.ensures.room in
    record {
      so_far = rw (c.in_ok-take_run.ensures, c.split_at.ensures.front, c.split_at.ensures.back) (sym taken ∙ c.bytes.invariant.so_far);
      short = omega (arith, ap (λ (x : Scanned). x.length) c.in_ok-take_run.ensures, c.split_at.ensures.front_len, c.run_length-count.ensures.room);
    }
