use Rattle.std.proofs.Common.{◌≢◌, [], ◌≤◌, ◌∙◌, ap, arith}
use Rattle.std.proofs.lemmas.List.Elements.{All-nil}
use Rattle.xf_addr.specs.Numbers.{number_of, cut_at}
use Rattle.xf_addr.proofs.Cuts.{cut_lacks, cut_skip, cut_sound, cut_none}
use Rattle.xf_addr.proofs.Decimals.{number_of-decimal, decimal-number_of}
use Rattle.xf_addr.proofs.laws.number_laws.Goals as goal

pub returns : goal.returns
returns c = record {
  number = λ max n word small. (
    decimal-number_of max word n small,
    λ h. ap (number_of max) h.0 ∙ number_of-decimal max n h.1 (let le : n ≤ max = h.1 in omega arith),
  );
  cut = λ byte text parts. (
    cut_sound byte text [] parts (All-nil (λ c. c ≢ byte)),
    λ h. ap (cut_at byte) h.0 ∙ cut_skip byte parts.0 [] parts.1 h.1,
  );
  uncut = λ byte text. (cut_none byte text [], cut_lacks byte text []);
}
