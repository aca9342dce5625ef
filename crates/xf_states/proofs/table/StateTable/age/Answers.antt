use Rattle.std.proofs.Common.{ap, sym, subst, ◌∙◌, map}
use Rattle.xf_states.specs.Table.{held_later, table_of}
use Rattle.xf_states.proofs.Ages.{AreApart-aged, later-held}
use Rattle.xf_states.proofs.Tables.{AreApart}
use Rattle.xf_states.proofs.table.StateTable.age.Goals as goal

pub invariant_of-self : goal.invariant_of-self
invariant_of-self c =
    subst AreApart (sym (c.age_all.ensures ∙ ap (map (held_later c.args.now)) c.remove_ended.ensures))
    (AreApart-aged c.args.now c.self.inside.held.items c.self.invariant)

pub returns : goal.returns
returns c =
    ap table_of (c.age_all.ensures ∙ ap (map (held_later c.args.now)) c.remove_ended.ensures)
    ∙ later-held c.args.now c.self.inside.held.items c.args.self.now c.self.view_is
