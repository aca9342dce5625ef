use Rattle.std.proofs.Common.{sym, subst}
use Rattle.xf_types.specs.declared.network.Addr.TheVariants.{V4}
use Rattle.xf_addr.specs.Spelling.{Spells}
use Rattle.xf_addr.specs.Written.{IsWrittenGroup}
use Rattle.xf_addr.proofs.Writings.{spells-addr_text, one_spelling}
use Rattle.xf_addr.proofs.WrittenGroups.{IsWrittenGroup-hex, hex-IsWrittenGroup}
use Rattle.xf_addr.proofs.WrittenRuns.{IsWritten-hex_groups_text, hex_groups_text-IsWritten}
use Rattle.xf_addr.proofs.laws.written_laws.Goals as goal

pub returns : goal.returns
returns c = record {
  v4 = λ text n fits. (λ e. subst (λ t. Spells t (V4 n)) (sym e) (spells-addr_text (V4 n) fits), one_spelling text n);
  group = λ text n fits. (λ e. subst (λ t. IsWrittenGroup t n) (sym e) (IsWrittenGroup-hex n fits), hex-IsWrittenGroup text n);
  groups = λ text groups. (IsWritten-hex_groups_text text groups, hex_groups_text-IsWritten text groups);
}
