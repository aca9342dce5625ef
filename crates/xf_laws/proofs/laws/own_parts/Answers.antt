use Rattle.xf_laws.proofs.OwnLemmas.{own-leave, own-added, lengths-left, lengths-added, own-ended}
use Rattle.xf_laws.proofs.laws.own_parts.Goals as goal

pub returns : goal.returns
returns c = record { leave = own-leave; added = own-added; left_lengths = lengths-left; added_lengths = lengths-added; ended = own-ended }
