use Rattle.xf_local.specs.Shown.{live_of}
use Rattle.xf_local.proofs.OneState.{output-treats}
use Rattle.xf_local.proofs.listed.Listed.send.Goals as goal

pub returns : goal.returns
returns c = output-treats c.send.result (live_of c.args.self.now) c.send.new.self c.args.len c.send.ensures
