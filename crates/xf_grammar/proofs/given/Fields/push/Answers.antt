use Rattle.xf_grammar.proofs.GivenLaws.{marked_more}
use Rattle.xf_grammar.proofs.given.Fields.push.Goals as goal

pub invariant_of-self-2 : goal.invariant_of-self-2
invariant_of-self-2 c =
    rw c.in_ok-push.ensures.items
    (marked_more c.self.inside.slots c.number.result c.self.inside.list.items c.args.field c.number.ensures.number c.number.ensures.few c.self.invariant)
