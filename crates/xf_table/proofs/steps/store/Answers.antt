use Rattle.std.proofs.Common.{◌≡◌, length, ap, ◌∙◌, arith}
use Rattle.xf_views.specs.declared.view.Start.{Start}
use Rattle.xf_table.proofs.Wording.{store_allowed}
use Rattle.xf_table.proofs.steps.store.Goals as goal

pub store-requires : goal.store-requires
store-requires g c =
    let t = c.args.table.now in
    let at = c.requires.table in
    let seats : c.args.place.now.me.0.life.start.seats ≡ t.seats = ap (λ (x : Start). x.seats) at.start ∙ t.seats_are in
    let count : length c.args.place.now.me.0.life.start.words ≡ t.count = ap (λ (x : Start). length x.words) at.start ∙ t.count_is in
    let low = c.requires.word in (
      at.table,
      (let h = t.words_are in omega arith),
      store_allowed g.T.Meaning.bucket_of g.T.Meaning.good g.T.Meaning.lists g.T.Meaning.machine g.T.Stands.standing g.T.Meaning.listing _ _ _ _ at.here t.seats c.args.word c.args.value seats (omega arith) c.requires.row,
    )
