use Rattle.xf_live.specs.Passes.{IsHere}
use Rattle.xf_live.specs.Calls.{Waiting}
use Rattle.xf_live.proofs.live.Live.enter_turn.Given as goal

abbrev pub invariant-loop : goal.invariant-loop
invariant-loop g l = IsHere l.self l.pass × Waiting l.fn.pass l.ticket l.pass
