use Rattle.std.proofs.Common.{refl}
use Rattle.xf_types.specs.declared.call.Call.TheVariants.{StateUpdate}
use Rattle.xf_types.specs.declared.call.Reply.TheVariants as reply
use Rattle.xf_rows.proofs.Telling.{excused}
use Rattle.xf_statecalls.proofs.Others.{others_none}
use Rattle.xf_statecalls.proofs.Placed.{places_same}
use Rattle.xf_statecalls.proofs.updating.update_larval.Goals as goal

pub returns-in-Err-clause-others : goal.returns-in-Err-clause-others
returns-in-Err-clause-others g c =
    others_none c.args.layout.now (g.D.Parts.hidden c.args.parts.now) (g.D.Cells.words c.args.parts.now) _ (g.D.Parts.beside c.args.parts.now) _ refl refl

pub returns-in-Err-clause-answer : goal.returns-in-Err-clause-answer
returns-in-Err-clause-answer g c = λ m r. excused c.args.layout.now _ _ m (StateUpdate c.args.spec.now) reply.NoMemory refl tt r

pub returns-in-Err-clause-places : goal.returns-in-Err-clause-places
returns-in-Err-clause-places g c =
    places_same c.args.layout.now (g.D.Cells.words c.args.parts.now) (g.D.Cells.words c.args.parts.now) (g.D.Parts.beside c.args.parts.now) c.requires.stands refl
