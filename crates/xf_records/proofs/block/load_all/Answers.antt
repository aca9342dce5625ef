use Rattle.std.proofs.Common.{rules, arith, ◌∙◌, ◌<◌, length}
use Rattle.xf_records.proofs.Fetches.{fetched_more}
use Rattle.xf_records.proofs.block.load_all.Goals as goal

pub words-preserved : goal.words-preserved
words-preserved g c =
    let b : c.words.word-index < length c.words.words = omega arith in
    record {
      place = omega arith;
      size = search rules;
      begun = search rules;
      rest = search rules;
      among = search rules;
      loads = search rules;
      words = λ image h. fetched_more image c.words.words c.words.place c.words.word-index c.load.result b (c.load.ensures.word image h)
          ∙ c.words.invariant.words image (c.load.ensures.among.among image h);
    }
