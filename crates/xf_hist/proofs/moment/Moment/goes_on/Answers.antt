use Rattle.std.proofs.Common.{◌↔◌, true, reverse, refl, sym, ◌∙◌}
use Rattle.std.specs.Prelude.{IsTrue}
use Rattle.xf_types.specs.History.{MayReply}
use Rattle.xf_hist.specs.Moments.{at}
use Rattle.xf_hist.proofs.Answering.{may-machine, like, told}
use Rattle.xf_hist.proofs.Nexts.{stays-next}
use Rattle.xf_hist.proofs.moment.Moment.goes_on.Goals as goal

pub returns-then-is_exception-clause-next : goal.returns-then-is_exception-clause-next
returns-then-is_exception-clause-next c done =
    let r = c.args.receipt.now in
    let may = told (λ b. IsTrue b ↔ MayReply (at c.args.self.now (reverse c.args.past.now)) r r.reply) c.allows.result true done c.allows.ensures in
    stays-next c.args.self.now (reverse c.args.past.now) r (may.0 refl) (sym c.is_exception.ensures ∙ c.if-is_exception.true)

pub returns-else-is_moving-clause-legal : goal.returns-else-is_moving-clause-legal
returns-else-is_moving-clause-legal c =
    let r = c.args.receipt.now in
    let own = may-machine (at c.args.self.now (reverse c.args.past.now)) r r.reply (sym c.is_exception.ensures ∙ c.if-is_exception.false) in
    like _ _ c.stays.result (own.1, own.0) c.stays.ensures.legal
