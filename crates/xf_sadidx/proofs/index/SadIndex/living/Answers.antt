use Rattle.std.proofs.Common.{◌≡◌, ◌∙◌, ℕ, ◌+◌, ◌*◌, ◌≤◌, subst, ap, sym, Some, rules, arith}
use Rattle.xf_sadidx.specs.declared.kind.Kind.TheVariants.{Spi}
use Rattle.xf_sadidx.specs.declared.query.StateQuery.TheVariants as asked
use Rattle.xf_sadidx.specs.Keys.{spi_hash}
use Rattle.xf_sadidx.specs.Founds.{bucket_size}
use Rattle.xf_sadidx.proofs.FoundLaws.{latest_is, chain_short}
use Rattle.xf_sadidx.proofs.KeyLaws.{id_key}
use Rattle.xf_sadidx.proofs.index.SadIndex.living.Goals as goal

pub returns-clause-state : goal.returns-clause-state
returns-clause-state g c = λ image entries agrees st records.
    let e : c.spi_hash-hash.result ≡ (spi_hash c.args.id.now.dst c.args.id.now.spi c.args.id.now.proto) = search rules in
    c.latest.ensures.answer image agrees
    ∙ latest_is c.args.self.now.area image Spi c.spi_hash-hash.result (asked.Named c.args.id.now) entries
    (λ s m. id_key c.args.id.now s m ∙ ap (λ h. Some h) (sym e)) st records

pub returns-clause-loads : goal.returns-clause-loads
returns-clause-loads g c = λ image entries agrees st.
    let e : c.spi_hash-hash.result ≡ (spi_hash c.args.id.now.dst c.args.id.now.spi c.args.id.now.proto) = search rules in
    let a = c.latest.ensures.loads image agrees in
    let b = chain_short c.args.self.now.area image Spi c.spi_hash-hash.result entries st in
    subst (λ (h : ℕ). g.L.Load.loads c.latest.new.l ≤ g.L.Load.loads c.args.l.now + 4 + 50 * bucket_size c.args.self.now.area image Spi h entries) e (omega (arith, a, b))
