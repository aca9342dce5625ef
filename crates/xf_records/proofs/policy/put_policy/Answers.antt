use Rattle.std.proofs.Common.{◌≡◌, ◌+◌, ◌≤◌, length, rules, arith, subst}
use Rattle.xf_records.proofs.PolicyLaws.{put_all, policy_got, put_below, put_above}
use Rattle.xf_records.proofs.policy.put_policy.Goals as goal

pub returns-clause-words : goal.returns-clause-words
returns-clause-words g c =
    put_all _ _ _ _ _ c.args.at _ _ c.args.policy.now c.plain_words.ensures.words c.as_slice-templates.ensures.value (search rules)
    c.store_all.ensures.words c.store.ensures.words c.put_templates.ensures.words

pub returns-clause-below : goal.returns-clause-below
returns-clause-below g c = put_below _ _ c.args.at c.args.policy.now (returns-clause-words g c)

pub returns-clause-above : goal.returns-clause-above
returns-clause-above g c =
    put_above _ _ c.args.at c.args.policy.now
    (subst (λ ts. length ts ≤ 6) c.as_slice-templates.ensures.value c.as_slice-templates.ensures.few) (returns-clause-words g c)

pub returns-clause-back : goal.returns-clause-back
returns-clause-back g c =
    let l : length (g.C.Cells.words c.args.c.now) ≡ g.C.Load.size c.args.c.now = search rules in
    let r : c.args.at + 101 ≤ length (g.C.Cells.words c.args.c.now) = omega arith in
    policy_got _ _ c.args.at c.args.policy.now (search rules) r (returns-clause-words g c)
