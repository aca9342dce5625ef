use Rattle.std.proofs.Common.{ℕ, sym, subst}
use Rattle.xf_types.specs.declared.call.Call.TheVariants.{PolicyDelete}
use Rattle.xf_types.specs.declared.call.Reply.{Reply}
use Rattle.xf_types.specs.Machine.{Machine}
use Rattle.xf_types.specs.PolicyList.{has_key}
use Rattle.xf_types.specs.Steps.{step}
use Rattle.xf_image.specs.Entries.{entries_without}
use Rattle.xf_beside.specs.Standing.{StandsFor, Answers}
use Rattle.xf_spd.proofs.Fitting.{named_back}
use Rattle.xf_beside.proofs.Kept.{answered_deleted}
use Rattle.xf_beside.proofs.removing.delete.Given as given
use Rattle.xf_beside.proofs.removing.delete.Goals as goal

pub delete-answer-requires-clause-back : goal.delete-answer-requires-clause-back
delete-answer-requires-clause-back g c =
    let s = c.requires.stood.1 in
    named_back c.args.spd.now.area (g.C.Cells.words c.args.c.now) s.machine.shown s.for_it.entries _ _ _ _ c.args.key.now s.for_it.stands s.pool

answers : (g : given.Over) (c : goal.After-index_reply g) (now : ℕ) (m : Machine) → StandsFor c.args.spd.now.area (g.C.Cells.words c.args.c.now) now m
    → Answers c.args.spd.now.area (g.C.Cells.words c.delete-answer.new.c) now c.index_reply.result (step m (PolicyDelete c.args.key.now))
answers g c now m st =
    let a = c.args.spd.now.area in
    subst (λ (r : Reply). Answers a (g.C.Cells.words c.delete-answer.new.c) now r (step m (PolicyDelete c.args.key.now))) (sym c.index_reply.ensures)
    (answered_deleted c.delete-answer.result a (g.C.Cells.words c.args.c.now) (g.C.Cells.words c.delete-answer.new.c) now m c.args.key.now
    (entries_without (has_key c.args.key.now) st.entries) st c.delete-answer.ensures.refused
    (λ ok. c.delete-answer.ensures.stands m.shown st.entries ok st.is.shown.policies st.stands)
    (c.delete-answer.ensures.reply m.shown st.entries st.stands))

pub returns-clause-answer : goal.returns-clause-answer
returns-clause-answer g c = answers g c

pub returns-clause-stood : goal.returns-clause-stood
returns-clause-stood g c = λ now s. record {
  machine = (step s.machine (PolicyDelete c.args.key.now)).machine;
  for_it = (answers g c now s.machine s.for_it).stands;
  pool = c.delete-answer.ensures.pool s.machine.shown s.for_it.entries c.requires.lasts s.for_it.stands s.pool;
}
