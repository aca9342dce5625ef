use Rattle.std.proofs.Common.{◌≡◌}
use Rattle.xf_views.specs.Views.{view_after_miss}
use Rattle.xf_live.specs.Passes.{IsHere, knowing}
use Rattle.xf_live.proofs.live.Live.enter_slot.Given as goal

-- but for what a miss ends, the pass is as it was
abbrev pub invariant-loop : goal.invariant-loop
invariant-loop g l = IsHere l.self l.pass × (knowing l.pass (view_after_miss l.pass.view) ≡ knowing l.fn.pass (view_after_miss l.fn.pass.view))
