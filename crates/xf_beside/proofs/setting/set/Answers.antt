use Rattle.std.proofs.Common.{refl, sym, ◌∙◌}
use Rattle.xf_types.specs.declared.call.Call.TheVariants.{PolicySet}
use Rattle.xf_types.specs.PolicyRules.{policy_set}
use Rattle.xf_image.proofs.Listed.{listed_is}
use Rattle.xf_beside.proofs.Kept.{ruled}
use Rattle.xf_beside.proofs.setting.set.Goals as goal

pub returns-clause-slots : goal.returns-clause-slots
returns-clause-slots g c = λ now m st.
    listed_is c.args.spd.now.area (g.C.Cells.words c.set.new.c) _ st.entries (c.set.ensures.stands m.shown st.entries st.stands).list
    ∙ sym (listed_is c.args.spd.now.area (g.C.Cells.words c.args.c.now) m.shown st.entries st.stands.list)

pub returns-clause-answer : goal.returns-clause-answer
returns-clause-answer g c = λ now m st. record {
  reply = refl;
  stands = ruled c.args.spd.now.area (g.C.Cells.words c.args.c.now) (g.C.Cells.words c.set.new.c) now m (PolicySet c.args.thresholds.now) (policy_set m.shown c.args.thresholds.now)
      st.entries st refl refl (c.set.ensures.stands m.shown st.entries st.stands);
}
