use Rattle.std.proofs.Common.{◌≡◌, ◌==◌, true, List, subst, sym, ◌∙◌, rules}
use Rattle.std.specs.List.{AllPairs}
use Rattle.xf_types.specs.declared.state.Sa.{Sa}
use Rattle.xf_types.specs.IsMachine.{IsStateList}
use Rattle.xf_asked.specs.Fields.{sid_at}
use Rattle.xf_sadidx.specs.Layout.{record_place}
use Rattle.xf_resize.specs.Rooms.{StatesChained}
use Rattle.xf_sadimage.specs.States.{StatesStand}
use Rattle.xf_sadfind.proofs.Guesses.{known, same_number}
use Rattle.xf_sadfind.proofs.Readings.{sids_hold}
use Rattle.xf_sadfind.proofs.finder.StateFinder.holds.Goals as goal

pub returns-clause-state : goal.returns-clause-state
returns-clause-state g c = λ image s entries agrees list st t.
    let a = c.args.self.now.area in
    let chained = StatesStand.chained st in
    let has : c.has_sid.result ≡ true = search rules in
    let told : (sid_at image (record_place a c.args.slot) == c.args.sid) ≡ true = sym (c.has_sid.ensures.answer image (c.is_chained.ensures.among.among image agrees)) ∙ has in
    known (λ slot. sid_at image (record_place a slot)) c.args.sid c.args.slot entries (sids_hold a image entries (StatesChained.records chained))
    (same_number (sid_at image (record_place a c.args.slot)) c.args.sid told)
    (c.is_chained.ensures.state image entries agrees (StatesChained.indexed chained) t)
    (subst (λ (rs : List Sa). AllPairs (λ x y. x.sid ≡ y.sid → ⊥) rs) (sym (StatesStand.listed st)) (IsStateList.sids list))
