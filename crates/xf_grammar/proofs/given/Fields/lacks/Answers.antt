use Rattle.std.proofs.Common.{ap, sym, ◌∙◌}
use Rattle.xf_grammar.specs.Lookups.{slot_number, value_in_group}
use Rattle.xf_grammar.proofs.GivenLaws.{clear_bit, unmarked_is_none}
use Rattle.xf_grammar.proofs.given.Fields.lacks.Goals as goal

pub returns : goal.returns
returns c = λ clear group.
    let inside = c.self.inside in
    ap (value_in_group group c.args.slot) (sym c.self.view_is)
    ∙ unmarked_is_none group inside.slots c.args.slot inside.list.items c.self.invariant
    (clear_bit inside.slots c.number.result (slot_number c.args.slot) c.number.ensures.number clear)
