use Rattle.std.proofs.Common.{◌≡◌, ◌∙◌, ap, sym, Some, rules}
use Rattle.xf_sadidx.specs.declared.kind.Kind.TheVariants.{Spi}
use Rattle.xf_sadidx.specs.declared.query.StateQuery.TheVariants as asked
use Rattle.xf_sadidx.specs.Keys.{spi_hash}
use Rattle.xf_sadidx.proofs.FoundLaws.{latest_is}
use Rattle.xf_sadidx.proofs.KeyLaws.{beside_key}
use Rattle.xf_sadidx.proofs.index.SadIndex.beside.Goals as goal

pub returns-clause-state : goal.returns-clause-state
returns-clause-state g c = λ image entries agrees st records.
    let e : c.spi_hash-hash.result ≡ (spi_hash c.args.id.now.dst c.args.id.now.spi c.args.id.now.proto) = search rules in
    c.latest.ensures.answer image agrees
    ∙ latest_is c.args.self.now.area image Spi c.spi_hash-hash.result (asked.Beside c.args.id.now c.args.sid) entries
    (λ s m. beside_key c.args.id.now c.args.sid s m ∙ ap (λ h. Some h) (sym e)) st records
