use Rattle.std.proofs.Common.{arith, ℕ, List, Some, length, ap, ◌∙◌, subst}
use Rattle.xf_types.specs.Machine.{Machine}
use Rattle.xf_types.specs.StateList.{has_id}
use Rattle.xf_sad.specs.Places.{slots_but}
use Rattle.xf_sad.specs.Slots.{listed_in}
use Rattle.xf_rows.specs.Rows.{entries_in}
use Rattle.xf_rows.specs.Values.{Beside}
use Rattle.xf_rows.proofs.Finding.{latest_found}
use Rattle.xf_statecalls.specs.Left.{RowAt, Occupied, StandsFor, around}
use Rattle.xf_statecalls.proofs.Placed.{places_as}
use Rattle.xf_statecalls.proofs.Replied.{row_at, occupied, deleted}
use Rattle.xf_statecalls.proofs.Standing.{row_back, row_kept, row_sid}
use Rattle.xf_statecalls.proofs.deleting.state_delete_ready.Given as given
use Rattle.xf_statecalls.proofs.deleting.state_delete_ready.Goals as goal

pub leave-requires-clause-back : goal.leave-requires-clause-back
leave-requires-clause-back g c =
    let k = c.requires.stands in
    let o : Occupied c.args.layout.now (g.D.Cells.words c.args.parts.now) (g.D.Parts.beside c.args.parts.now) c.args.slot =
    occupied c.args.layout.now (g.D.Cells.words c.args.parts.now) (g.D.Parts.beside c.args.parts.now) (has_id c.args.id.now) c.args.slot k
    (c.requires.found k.machine.shown (entries_in k.stands.rows) k.stands.on_states) in
    row_back c.args.layout.now (g.D.Cells.words c.args.parts.now) (g.D.Parts.beside c.args.parts.now) o.machine c.args.slot _ _ _ _ o.at c.requires.pool

pub leave-requires-clause-occupied : goal.leave-requires-clause-occupied
leave-requires-clause-occupied g c =
    let k = c.requires.stands in
    row_kept c.args.layout.now (g.D.Cells.words c.args.parts.now) _ (g.D.Parts.beside c.args.parts.now) _ c.args.slot c.sid_in_here-sid.ensures.words c.sid_in_here-sid.ensures.beside
    (occupied c.args.layout.now (g.D.Cells.words c.args.parts.now) (g.D.Parts.beside c.args.parts.now) (has_id c.args.id.now) c.args.slot k
    (c.requires.found k.machine.shown (entries_in k.stands.rows) k.stands.on_states))

leaves : (g : given.Over) (c : goal.After-leave g) (m : Machine) (t : RowAt c.args.layout.now (g.D.Cells.words c.args.parts.now) (g.D.Parts.beside c.args.parts.now) m c.args.slot)
    → StandsFor c.args.layout.now (g.D.Cells.words c.leave.new.parts) (g.D.Parts.beside c.leave.new.parts) m.shown (around t.stands.rows t.row t.place)
leaves g c =
    subst (λ (b : Beside). (m : Machine) (t : RowAt c.args.layout.now (g.D.Cells.words c.args.parts.now) b m c.args.slot)
    → StandsFor c.args.layout.now (g.D.Cells.words c.leave.new.parts) (g.D.Parts.beside c.leave.new.parts) m.shown (around t.stands.rows t.row t.place)) c.sid_in_here-sid.ensures.beside
    (subst (λ (i : List ℕ). (m : Machine) (t : RowAt c.args.layout.now i (g.D.Parts.beside c.sid_in_here-sid.new.parts) m c.args.slot)
    → StandsFor c.args.layout.now (g.D.Cells.words c.leave.new.parts) (g.D.Parts.beside c.leave.new.parts) m.shown (around t.stands.rows t.row t.place)) c.sid_in_here-sid.ensures.words
    c.leave.ensures.stands)

pub returns-clause-answer : goal.returns-clause-answer
returns-clause-answer g c = λ m r.
    let i = g.D.Cells.words c.args.parts.now in
    let b = g.D.Parts.beside c.args.parts.now in
    let f = latest_found c.args.layout.now i b m (has_id c.args.id.now) c.args.slot r (c.requires.found m.shown (entries_in r.rows) r.on_states) in
    let t = row_at c.args.layout.now i b m (has_id c.args.id.now) c.args.slot _ r f in
    deleted c.args.layout.now i (g.D.Cells.words c.leave.new.parts) b (g.D.Parts.beside c.leave.new.parts) m c.args.id.now c.args.slot c.sid_in_here-sid.result r f
    (c.sid_in_here-sid.ensures.answer ∙ row_sid c.args.layout.now i b m c.args.slot t) (leaves g c m t)

pub returns-clause-out : goal.returns-clause-out
returns-clause-out g c =
    let fits = c.requires.pool.taken in
    let one = c.leave.ensures.out in
    let less = c.leave.ensures.less in
    let same = ap (λ (w : List ℕ). length (listed_in c.args.layout.now.states w)) c.sid_in_here-sid.ensures.words in
    omega (arith, fits, one, less, same)

pub returns-clause-list : goal.returns-clause-list
returns-clause-list g c =
    c.leave.ensures.list ∙ ap (λ (w : List ℕ). slots_but (Some c.args.slot) (listed_in c.args.layout.now.states w)) c.sid_in_here-sid.ensures.words

pub returns-clause-places : goal.returns-clause-places
returns-clause-places g c =
    places_as c.args.layout.now.states (g.D.Cells.words c.args.parts.now) (g.D.Cells.words c.sid_in_here-sid.new.parts) (g.D.Cells.words c.leave.new.parts)
    (g.D.Parts.beside c.args.parts.now) (g.D.Parts.beside c.sid_in_here-sid.new.parts) c.sid_in_here-sid.ensures.words c.sid_in_here-sid.ensures.beside c.leave.ensures.places
