use Rattle.std.proofs.Common.{rules}
use Rattle.std.proofs.lemmas.Bool.Decides.{Decides-at}
use Rattle.xf_types.proofs.Decisions.{Decides-is_same}
use Rattle.xf_types.proofs.same.same_policy.Goals as goal

pub returns-then-same_selector-clause-fact : goal.returns-then-same_selector-clause-fact
returns-then-same_selector-clause-fact c =
    Decides-at c.same_mark.result _ (search rules) (Decides-is_same c.args.a.now c.args.b.now)
