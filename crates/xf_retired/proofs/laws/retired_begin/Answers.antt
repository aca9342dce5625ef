use Rattle.xf_retired.proofs.Rows.{retired_begin}
use Rattle.xf_retired.proofs.laws.retired_begin.Goals as goal

pub returns : goal.returns
returns g c = retired_begin g.T.Pools.policies g.T.Pools.states
