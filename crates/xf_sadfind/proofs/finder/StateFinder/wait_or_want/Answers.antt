use Rattle.xf_sadfind.proofs.Ways.{larval_waits, larval_wants}
use Rattle.xf_sadfind.proofs.finder.StateFinder.wait_or_want.Goals as goal

pub returns-in-None-clause-state : goal.returns-in-None-clause-state
returns-in-None-clause-state g c = λ image entries agrees st records.
    larval_wants entries c.args.template.now c.args.flow.now c.args.used.now.src c.args.used.now.dst c.args.place
    (c.in-None.ensures.state image entries agrees st records)

pub returns-in-Some-clause-state : goal.returns-in-Some-clause-state
returns-in-Some-clause-state g c = λ image entries agrees st records.
    larval_waits c.args.self.now.area image entries c.args.template.now c.args.flow.now c.args.used.now.src c.args.used.now.dst c.args.place c.in-Some.slot c.seq_in.result
    records (c.in-Some.ensures.state image entries (c.seq_in.ensures.among.among image agrees) st records) (c.seq_in.ensures.answer image agrees)
