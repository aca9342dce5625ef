use Rattle.std.proofs.Common.{Option, ap, sym, ◌∙◌}
use Rattle.xf_listing.specs.declared.entry.Entry.{Entry}
use Rattle.xf_spd.specs.Replies.{named_reply, policy_reply}
use Rattle.xf_spd.proofs.Removed.{get_is}
use Rattle.xf_spd.proofs.spd.Spd.get.Goals as goal

pub returns-clause-answer : goal.returns-clause-answer
returns-clause-answer g c = λ image s es h stands.
    ap policy_reply (c.told.ensures.is ∙ ap (λ (o : Option Entry). named_reply o) (c.named-entry.ensures.answer image h))
    ∙ get_is c.args.self.now.area image s es c.args.key.now (sym c.is_bad_key.ensures ∙ c.if-is_bad_key.false) stands
