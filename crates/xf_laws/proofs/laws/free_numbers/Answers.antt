use Rattle.xf_laws.proofs.CounterLemmas.{first_free-is}
use Rattle.xf_laws.proofs.FreeLemmas.{free_number-first, index-free, free_seq-first, seq-free, free_spi-least, no_spi-free}
use Rattle.xf_laws.proofs.laws.free_numbers.Goals as goal

pub returns : goal.returns
returns c = record {
  first = first_free-is;
  number_first = free_number-first;
  index_free = index-free;
  seq_first = free_seq-first;
  seq_free = seq-free;
  spi_least = free_spi-least;
  no_spi = no_spi-free;
}
