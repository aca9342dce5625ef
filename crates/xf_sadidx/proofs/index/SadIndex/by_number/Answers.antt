use Rattle.std.proofs.Common.{◌≡◌, ◌∙◌, ap, sym, Some, rules}
use Rattle.xf_sadidx.specs.declared.kind.Kind.TheVariants.{Spi}
use Rattle.xf_sadidx.specs.declared.query.StateQuery.TheVariants as asked
use Rattle.xf_sadidx.specs.Keys.{spi_hash}
use Rattle.xf_sadidx.proofs.FoundLaws.{latest_is}
use Rattle.xf_sadidx.proofs.KeyLaws.{number_key}
use Rattle.xf_sadidx.proofs.index.SadIndex.by_number.Goals as goal

pub returns-clause-state : goal.returns-clause-state
returns-clause-state g c = λ image entries agrees st records.
    let e : c.spi_hash-hash.result ≡ (spi_hash c.args.dst.now c.args.spi c.args.proto) = search rules in
    c.latest.ensures.answer image agrees
    ∙ latest_is c.args.self.now.area image Spi c.spi_hash-hash.result (asked.Number c.args.dst.now c.args.proto c.args.spi) entries
    (λ s m. number_key c.args.dst.now c.args.proto c.args.spi s m ∙ ap (λ h. Some h) (sym e)) st records
