use Rattle.std.proofs.Common.{List, ap, ◌∙◌}
use Rattle.xf_types.specs.declared.state.Sa.{Sa}
use Rattle.xf_types.specs.declared.state.SaId.{SaId}
use Rattle.xf_index.specs.Finds.{slot_found}
use Rattle.xf_sadidx.specs.Founds.{latest_in}
use Rattle.xf_resize.specs.Rooms.{StatesChained}
use Rattle.xf_sadimage.specs.States.{StatesStand}
use Rattle.xf_sadfind.specs.Replaced.{names_beside, sid_found, in_the_way}
use Rattle.xf_sadfind.proofs.Besides.{way_is}
use Rattle.xf_sadfind.proofs.finder.StateFinder.in_the_way.Goals as goal

pub returns-clause-state : goal.returns-clause-state
returns-clause-state g c = λ image s entries agrees st is.
    let indexed = StatesChained.indexed (StatesStand.chained st) in
    let records = StatesChained.records (StatesStand.chained st) in
    c.sid_in.ensures.answer image agrees
    ∙ way_is c.args.self.now.area image c.args.spec.now c.args.gone c.named_beside-slot.result entries records is
    (λ old there. c.named_beside-slot.ensures.state image entries old (c.sid_in.ensures.among.among image agrees) indexed records there
    ∙ ap (λ (id : SaId). slot_found (latest_in (names_beside id old) entries)) c.id_of-id.ensures)
    ∙ ap (λ (rs : List Sa). sid_found (in_the_way rs c.args.spec.now)) (StatesStand.listed st)
