use Rattle.std.proofs.Common.{◌≡◌, ℕ, List, subst, sym, rules}
use Rattle.xf_chain.specs.Families.{Lays}
use Rattle.xf_doubling.specs.Splits.{split_of}
use Rattle.xf_doubling.specs.DoublingLaws.{Splits}
use Rattle.xf_doubling.proofs.Splitting.{split_keys}
use Rattle.xf_doubling.proofs.chains.split.Goals as goal

pub returns-clause-index : goal.returns-clause-index
returns-clause-index g c =
    let e : g.C.Cells.words c.step.new.c ≡ split_of c.args.family.now c.args.d.half c.args.d.moved (g.K.Keys.key c.args.keys.now) (g.C.Cells.words c.args.c.now) = search rules in
    λ entries rests apart within holds is.
    subst (λ (w : List ℕ). Splits c.args.family.now c.args.d.half c.args.d.moved (λ key. key) (g.C.Cells.words c.args.c.now) w entries) (sym e)
    (split_keys c.args.family.now (g.C.Cells.words c.args.c.now) c.args.d.half c.args.d.moved (g.K.Keys.key c.args.keys.now) entries
    (subst (λ (n : ℕ). Lays c.args.family.now n) (sym (g.met.C.Cells.all c.args.c.now)) c.requires.lays) c.requires.heads c.requires.pending rests apart within holds is)
