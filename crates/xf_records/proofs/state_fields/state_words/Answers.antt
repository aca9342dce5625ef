use Rattle.std.proofs.Common.{subst}
use Rattle.xf_records.specs.Parts.{SelectorFits}
use Rattle.xf_records.proofs.state_fields.state_words.Goals as goal

pub returns-clause-fits : goal.returns-clause-fits
returns-clause-fits c = record {
  dst = c.low_word.ensures.fits;
  spi = c.small_word.ensures.fits;
  value = c.small_word-2.ensures.fits;
  mask = c.small_word-3.ensures.fits;
  reqid = c.small_word-4.ensures.fits;
  if_id = c.small_word-5.ensures.fits;
  src = c.low_word-2.ensures.fits;
  seq = c.small_word-6.ensures.fits;
  sel = subst SelectorFits c.sel_or-sel.ensures (record {
    src = c.low_word-3.ensures.fits;
    dst = c.low_word-4.ensures.fits;
    proto = c.byte_word-3.ensures.fits;
    sport = c.port_word.ensures.fits;
    dport = c.port_word-2.ensures.fits;
  });
}
