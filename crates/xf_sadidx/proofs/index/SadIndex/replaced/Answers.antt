use Rattle.std.proofs.Common.{◌≡◌, ◌∙◌, [], ◌∷◌, ap, sym, Some, rules}
use Rattle.xf_sadidx.specs.declared.kind.Kind.TheVariants.{Seq}
use Rattle.xf_sadidx.specs.declared.query.StateQuery.TheVariants as asked
use Rattle.xf_sadidx.specs.Keys.{hash_of}
use Rattle.xf_sadidx.proofs.FoundLaws.{latest_is}
use Rattle.xf_sadidx.proofs.KeyLaws.{replaced_key}
use Rattle.xf_sadidx.proofs.index.SadIndex.replaced.Goals as goal

pub returns-clause-state : goal.returns-clause-state
returns-clause-state g c = λ image entries agrees st records.
    let e : c.hash-hash.result ≡ hash_of (c.args.seq ∷ []) = search rules in
    c.latest.ensures.answer image agrees
    ∙ latest_is c.args.self.now.area image Seq c.hash-hash.result (asked.Replaced c.args.seq c.args.proto c.args.dst.now) entries
    (λ s m. replaced_key c.args.seq c.args.proto c.args.dst.now s c.requires.seq m ∙ ap (λ h. Some h) (sym e)) st records
