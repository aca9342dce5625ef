use Rattle.std.proofs.Common.{◌+◌, ap, ◌∙◌}
use Rattle.xf_values.specs.declared.state_value.StateValue.{StateValue}
use Rattle.xf_live.specs.Passes.{PassView}
use Rattle.xf_live.specs.Values.{holds}
use Rattle.xf_desk.specs.Values.{beside_of}
use Rattle.xf_desk.proofs.Homes.{same_holds}
use Rattle.xf_desk.proofs.Besides.{twice_at}
use Rattle.xf_desk.proofs.desk.DeskParts.send.Goals as goal

pub replace-requires-clause-held : goal.replace-requires-clause-held
replace-requires-clause-held g c =
    ap (λ (p : PassView StateValue). holds p.values (g.B.From.live.start.policies + c.args.slot)) c.replace-local.ensures.pass
    ∙ same_holds c.args.self.now.pass.values (g.B.From.live.start.policies + c.args.slot) _ (g.B.From.live.start.policies + c.args.slot)
    ∙ c.requires.held

pub returns-clause-beside : goal.returns-clause-beside
returns-clause-beside g c =
    twice_at (beside_of g.B.From.live.start c.args.self.now.pass.values) (beside_of g.B.From.live.start c.replace-local.new.self.pass.values)
    (beside_of g.B.From.live.start c.replace.new.self.pass.values) c.args.slot _ _ c.requires.slot c.replace-local.ensures.beside c.replace.ensures.beside
