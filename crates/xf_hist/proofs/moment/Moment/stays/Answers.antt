use Rattle.std.proofs.Common.{◌≡◌, ◌↔◌, true, reverse, refl}
use Rattle.std.specs.Prelude.{IsTrue}
use Rattle.xf_types.specs.Steps.{step}
use Rattle.xf_hist.specs.Moments.{at}
use Rattle.xf_hist.proofs.Answering.{may-machine, told}
use Rattle.xf_hist.proofs.Nexts.{stepped-next}
use Rattle.xf_hist.proofs.moment.Moment.stays.Goals as goal

pub returns-clause-next : goal.returns-clause-next
returns-clause-next c done =
    let m = c.args.self.now in
    let r = c.args.receipt.now in
    let past = reverse c.args.past.now in
    let own = (told (λ b. IsTrue b ↔ (r.reply ≡ (step m.machine r.call).reply)) c.answers.result true done c.answers.ensures.answer).0 refl in
    let machine = told (λ b. c.answers.new.machine ≡ (step m.machine r.call).machine) c.answers.result true done c.answers.ensures.machine in
    stepped-next m _ past r ((may-machine (at m past) r r.reply c.requires.inside).1 own) c.requires.inside c.requires.still machine refl refl
