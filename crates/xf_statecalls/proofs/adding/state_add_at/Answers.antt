use Rattle.std.proofs.Common.{◌≡◌, true, false}
use Rattle.xf_types.specs.Codes.{is_refusal_of}
use Rattle.xf_statecalls.proofs.Others.{others_none}
use Rattle.xf_statecalls.proofs.Placed.{places_same}
use Rattle.xf_statecalls.proofs.adding.state_add_at.Goals as goal

pub returns-in-Err-clause-others : goal.returns-in-Err-clause-others
returns-in-Err-clause-others g c =
    others_none c.args.layout.now (g.D.Parts.hidden c.args.parts.now) (g.D.Cells.words c.args.parts.now) _ (g.D.Parts.beside c.args.parts.now) _ c.without_window.ensures.same.words c.without_window.ensures.same.values

pub returns-in-Err-clause-given : goal.returns-in-Err-clause-given
returns-in-Err-clause-given g c = λ done. let refuses : is_refusal_of c.without_window.result ≡ true = c.without_window.ensures.refusal in absurd (cc)

pub returns-in-Err-clause-places : goal.returns-in-Err-clause-places
returns-in-Err-clause-places g c =
    places_same c.args.layout.now (g.D.Cells.words c.args.parts.now) (g.D.Cells.words c.without_window.new.parts) (g.D.Parts.beside c.args.parts.now) c.requires.stands
    c.without_window.ensures.same.words
