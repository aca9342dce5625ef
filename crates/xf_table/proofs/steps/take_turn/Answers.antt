use Rattle.std.proofs.Common.{◌≡◌, length, sym, ap, ◌∙◌, arith}
use Rattle.xf_views.specs.declared.view.Start.{Start}
use Rattle.xf_seats.specs.Opened.{slots_of}
use Rattle.xf_table.proofs.Slotting.{take_allowed}
use Rattle.xf_table.proofs.steps.take_turn.Goals as goal

pub compare_exchange-requires : goal.compare_exchange-requires
compare_exchange-requires g c =
    let t = c.args.table.now in
    let at = c.requires.table in
    let seats : c.args.place.now.me.0.life.start.seats ≡ t.seats = ap (λ (x : Start). x.seats) at.start ∙ t.seats_are in
    let count : length c.args.place.now.me.0.life.start.words ≡ t.count = ap (λ (x : Start). length x.words) at.start ∙ t.count_is in
    let size : slots_of c.args.place.now.me.0.life.start ≡ t.slots = ap slots_of at.start ∙ t.slots_are in
    let low = c.requires.slot in (
      at.table,
      (let h = t.words_are in omega arith),
      take_allowed g.T.Meaning.bucket_of g.T.Meaning.good g.T.Meaning.lists g.T.Meaning.machine g.T.Stands.standing g.T.Meaning.listing _ _ _ _ at.here c.args.slot t.count t.seats count seats (omega arith) c.from-mine.result (c.requires.worker ∙ sym c.from-mine.ensures) c.requires.row,
    )
