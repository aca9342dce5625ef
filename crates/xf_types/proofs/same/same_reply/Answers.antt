use Rattle.std.proofs.lemmas.Bool.Decides.{Decides-at}
use Rattle.xf_types.proofs.EqualReplies.{Decides-reply}
use Rattle.xf_types.proofs.same.same_reply.Goals as goal

pub returns : goal.returns
returns c = Decides-at c.eq.result _ c.eq.ensures (Decides-reply c.args.a.now c.args.b.now)
