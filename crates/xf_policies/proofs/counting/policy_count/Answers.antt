use Rattle.std.proofs.Common.{◌≡◌, ℕ, refl}
use Rattle.xf_types.specs.declared.call.Reply.TheVariants as reply
use Rattle.xf_types.specs.declared.network.Dir.TheVariants.{In, Out, Fwd}
use Rattle.xf_types.specs.Same.{same_dir}
use Rattle.xf_policies.specs.declared.counting.Tally.{Tally}
use Rattle.xf_policies.proofs.Gathered.{all_seen, list_few, tallied_all}
use Rattle.xf_policies.proofs.counting.policy_count.Goals as goal

same_counts : (a b c x y z : ℕ) → a ≡ x → b ≡ y → c ≡ z → reply.PolicyCount a b c ≡ reply.PolicyCount x y z
same_counts a b c x y z p q r = λ i. reply.PolicyCount (p i) (q i) (r i)

pub returns-clause-answer : goal.returns-clause-answer
returns-clause-answer g c = λ image s es agrees st.
    let few = list_few c.args.spd.now.area image s es c.args.spd.now.facts.most st in
    let seen = all_seen c.walk-told.result _ (c.walk-told.ensures.sure refl) (c.walk-told.ensures.visited image s es agrees st) in
    same_counts _ _ _ _ _ _
    (tallied_all _ (λ (v : Tally). v.inward) (λ p. same_dir p.spec.dir In) (λ v u p h. h.0) _ c.walk-told.new.visitor s.policies refl few seen)
    (tallied_all _ (λ (v : Tally). v.outward) (λ p. same_dir p.spec.dir Out) (λ v u p h. h.1.0) _ c.walk-told.new.visitor s.policies refl few seen)
    (tallied_all _ (λ (v : Tally). v.forward) (λ p. same_dir p.spec.dir Fwd) (λ v u p h. h.1.1) _ c.walk-told.new.visitor s.policies refl few seen)
