use Rattle.std.proofs.Common.{refl}
use Rattle.xf_policies.specs.declared.counting.Counter.{Counter}
use Rattle.xf_policies.proofs.Gathered.{all_seen, list_few, counted_all}
use Rattle.xf_policies.proofs.counting.count_changes.Goals as goal

pub returns-clause-answer : goal.returns-clause-answer
returns-clause-answer g c = λ image s es agrees st.
    counted_all _ (λ (v : Counter). v.what) (λ (v : Counter). v.count) (λ v u p h. h) _ c.walk-told.new.visitor s.policies refl
    (list_few c.args.spd.now.area image s es c.args.spd.now.facts.most st)
    (all_seen c.walk-told.result _ (c.walk-told.ensures.sure refl) (c.walk-told.ensures.visited image s es agrees st))
