use Rattle.std.proofs.Common.{◌≡◌, sym, ◌∙◌, arith, length, vec_capacity, ap}
use Rattle.xf_views.specs.declared.view.Start.{Start}
use Rattle.xf_opening.specs.Images.{homes_of}
use Rattle.xf_opening.proofs.Images.{image_is, told_rests}
use Rattle.xf_db.proofs.Beginnings.{opened_from, starts_at, all_rest, same_rests, is_opened}
use Rattle.xf_db.proofs.database.Xfrm.open.Goals as goal

pub new-requires-clause-opened : goal.new-requires-clause-opened
new-requires-clause-opened c =
    let r = c.into_parts-words.result in
    opened_from c.args.seats r.0.policies r.0.states r.1.items r.2.items c.args.image c.into_parts-words.ensures c.requires.some c.requires.few

pub dress-passes-requires-clause-resting : goal.dress-passes-requires-clause-resting
dress-passes-requires-clause-resting c = all_rest c.in-Ok-new.live c.in-Ok-new.passes.items c.in-Ok-new.ensures.passes

pub invariant_of-result : goal.invariant_of-result
invariant_of-result c =
    let r = c.into_parts-words.result in
    let a : c.in-Ok-new.live.start.seats ≡ length c.in-Ok-new.passes.items = sym c.in-Ok-new.ensures.passes.count in
    let b = c.in-Ok-new.passes.ok in
    let e : vec_capacity c.dress-passes.result.1 ≡ vec_capacity c.in-Ok-new.passes = c.dress-passes.ensures.room.1 in
    let count : c.in-Ok-new.live.count ≡ length c.in-Ok-new.live.start.words =
    c.in-Ok-new.ensures.table.1 ∙ (r.1.ok.0 ∙ sym (ap (λ (x : Start). length x.words) c.in-Ok-new.ensures.table.0)) in (
      record {
        start = starts_at c.args.seats r.0.policies r.0.states r.1.items r.2.items c.args.image c.into_parts-words.ensures c.in-Ok-new.live.start c.in-Ok-new.ensures.table.0;
        count = count;
      },
      c.dress-passes.ensures.room.0,
      omega (arith, a, b.0, b.1, e),
    )

pub from_parts-requires : goal.from_parts-requires
from_parts-requires c =
    let r = c.into_parts-words.result in
    told_rests r.0.policies r.0.states c.in-Err.field-0.words.items (homes_of c.in-Err.field-0.values.items) c.args.image
    (same_rests r.0.policies r.0.states r.1.items c.in-Err.field-0.words.items r.2.items c.in-Err.field-0.values.items c.args.image
    c.in-Err.ensures.refused.0 c.in-Err.ensures.refused.1 c.into_parts-words.ensures)

pub returns-in-Ok-new-clause-opened : goal.returns-in-Ok-new-clause-opened
returns-in-Ok-new-clause-opened c =
    let r = c.into_parts-words.result in
    is_opened c.args.seats r.0.policies r.0.states r.1.items r.2.items c.args.image c.in-Ok-new.live c.in-Ok-new.passes.items c.dress-passes.result.0.items
    c.into_parts-words.ensures c.in-Ok-new.ensures.table.0 c.in-Ok-new.ensures.passes c.dress-passes.ensures.passes

pub returns-in-Err-clause-back : goal.returns-in-Err-clause-back
returns-in-Err-clause-back c =
    let r = c.into_parts-words.result in
    let rest = same_rests r.0.policies r.0.states r.1.items c.in-Err.field-0.words.items r.2.items c.in-Err.field-0.values.items c.args.image
    c.in-Err.ensures.refused.0 c.in-Err.ensures.refused.1 c.into_parts-words.ensures in
    c.from_parts.ensures ∙ image_is r.0.policies r.0.states c.in-Err.field-0.words.items (homes_of c.in-Err.field-0.values.items) c.args.image rest.stands
