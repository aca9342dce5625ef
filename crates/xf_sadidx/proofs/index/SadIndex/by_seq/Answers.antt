use Rattle.std.proofs.Common.{◌≡◌, ◌∙◌, [], ◌∷◌, ap, sym, Some, rules}
use Rattle.xf_sadidx.specs.declared.kind.Kind.TheVariants.{Seq}
use Rattle.xf_sadidx.specs.declared.query.StateQuery.TheVariants as asked
use Rattle.xf_sadidx.specs.Keys.{hash_of}
use Rattle.xf_sadidx.proofs.FoundLaws.{latest_is}
use Rattle.xf_sadidx.proofs.KeyLaws.{seq_is}
use Rattle.xf_sadidx.proofs.index.SadIndex.by_seq.Goals as goal

pub returns-clause-state : goal.returns-clause-state
returns-clause-state g c = λ image entries agrees st records.
    let e : c.hash-hash.result ≡ hash_of (c.args.seq ∷ []) = search rules in
    c.latest.ensures.answer image agrees
    ∙ latest_is c.args.self.now.area image Seq c.hash-hash.result (asked.Numbered c.args.seq) entries
    (λ s m. seq_is c.args.seq s c.requires.seq m ∙ ap (λ h. Some h) (sym e)) st records
