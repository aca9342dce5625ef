use Rattle.std.proofs.Common.{ap, sym, subst, ◌∙◌, ◌≢◌}
use Rattle.std.specs.Prelude.{AllPairs}
use Rattle.xf_held.specs.View.{HeldView}
use Rattle.xf_states.specs.Table.{table_of}
use Rattle.xf_states.proofs.Joined.{table_of-zipped, apart-zipped}
use Rattle.xf_states.proofs.table.StateTable.of.Goals as goal

pub invariant_of-result : goal.invariant_of-result
invariant_of-result c =
    subst (AllPairs (λ (x y : HeldView). x.state.sid ≢ y.state.sid)) (sym c.join.ensures)
    (apart-zipped c.args.states.now c.args.own.items c.requires.fits c.requires.apart)

pub returns : goal.returns
returns c = ap table_of c.join.ensures ∙ table_of-zipped c.args.states.now c.args.own.items c.requires.fits
