use Rattle.std.proofs.Common.{◌≡◌, ◌∙◌, ℕ, ◌+◌, ◌*◌, ◌≤◌, subst, ap, sym, Some, rules, arith}
use Rattle.xf_sadidx.specs.declared.kind.Kind.TheVariants.{Route}
use Rattle.xf_sadidx.specs.declared.query.StateQuery.TheVariants as asked
use Rattle.xf_sadidx.specs.Keys.{route_hash}
use Rattle.xf_sadidx.specs.Founds.{bucket_size}
use Rattle.xf_sadidx.proofs.FoundLaws.{latest_is, chain_short}
use Rattle.xf_sadidx.proofs.KeyLaws.{larval_key}
use Rattle.xf_sadidx.proofs.index.SadIndex.larval.Goals as goal

pub returns-clause-state : goal.returns-clause-state
returns-clause-state g c = λ image entries agrees st records.
    let e : c.route_hash-hash.result ≡ (route_hash c.args.dst.now c.args.t.now.reqid) = search rules in
    c.latest.ensures.answer image agrees
    ∙ latest_is c.args.self.now.area image Route c.route_hash-hash.result (asked.Larval c.args.t.now c.args.flow.now c.args.src.now c.args.dst.now) entries
    (λ s m. larval_key c.args.t.now c.args.flow.now c.args.src.now c.args.dst.now s m ∙ ap (λ h. Some h) (sym e)) st records

pub returns-clause-loads : goal.returns-clause-loads
returns-clause-loads g c = λ image entries agrees st.
    let e : c.route_hash-hash.result ≡ (route_hash c.args.dst.now c.args.t.now.reqid) = search rules in
    let a = c.latest.ensures.loads image agrees in
    let b = chain_short c.args.self.now.area image Route c.route_hash-hash.result entries st in
    subst (λ (h : ℕ). g.L.Load.loads c.latest.new.l ≤ g.L.Load.loads c.args.l.now + 4 + 50 * bucket_size c.args.self.now.area image Route h entries) e (omega (arith, a, b))
