use Rattle.xf_records.proofs.policy_fields.plain_words.Goals as goal

pub returns-clause-fits : goal.returns-clause-fits
returns-clause-fits c = record {
  if_id = c.small_word.ensures.fits;
  sel = record {
    src = c.low_word.ensures.fits;
    dst = c.low_word-2.ensures.fits;
    proto = c.byte_word-3.ensures.fits;
    sport = c.port_word.ensures.fits;
    dport = c.port_word-2.ensures.fits;
  };
  value = c.small_word-2.ensures.fits;
  mask = c.small_word-3.ensures.fits;
  priority = c.small_word-4.ensures.fits;
  index = c.small_word-5.ensures.fits;
  asked = c.small_word-6.ensures.fits;
}
