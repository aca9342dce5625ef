use Rattle.std.proofs.Common.{◌≡◌, ℕ, List, ◌++◌, length, ap, sym, ◌∙◌, subst}
use Rattle.xf_index.specs.Indexes.{records_in}
use Rattle.xf_image.specs.Frames.{Frame}
use Rattle.xf_local.specs.View.{Dead}
use Rattle.xf_sad.specs.Slots.{PoolFits}
use Rattle.xf_sadimage.specs.States.{StatesStand}
use Rattle.xf_sadlist.specs.Listed.{with_states}
use Rattle.xf_rows.specs.Layouts.{Fits}
use Rattle.xf_rows.specs.Rows.{entries_in}
use Rattle.xf_rows.specs.Values.{Beside, value_put}
use Rattle.xf_statecalls.specs.Left.{StandsFor, around}
use Rattle.xf_statecalls.proofs.Others.{others_both, put_count, put_held}
use Rattle.xf_statecalls.proofs.Placed.{place_left, list_left, list_less}
use Rattle.xf_statecalls.proofs.Standing.{entry_at, left_here, slots_behind, states_behind}
use Rattle.xf_statecalls.proofs.removing.leave.Given as given
use Rattle.xf_statecalls.proofs.removing.leave.Goals as goal

frees : (g : given.Over) (c : goal.After-end_value g) → Frame 0 (g.D.Parts.hidden c.args.parts.now) (g.D.Cells.words c.delete_here.new.parts) (g.D.Cells.words c.end_value.new.parts)
frees g c =
    subst (λ (n : ℕ). Frame 0 n (g.D.Cells.words c.delete_here.new.parts) (g.D.Cells.words c.end_value.new.parts)) c.delete_here.ensures.hidden c.end_value.ensures.frame

fits : (g : given.Over) (c : goal.After-end_value g) → Fits c.args.layout.now (length (g.D.Cells.words c.args.parts.now))
fits g c = subst (λ (n : ℕ). Fits c.args.layout.now n) (sym (g.met.D.Cells.all c.args.parts.now)) c.requires.fits

value : (g : given.Over) (c : goal.After-end_value g) → g.D.Parts.beside c.end_value.new.parts ≡ value_put (g.D.Parts.beside c.args.parts.now) c.args.slot Dead
value g c = c.end_value.ensures.beside ∙ ap (λ (b : Beside). value_put b c.args.slot Dead) c.delete_here.ensures.beside

pub returns-clause-others : goal.returns-clause-others
returns-clause-others g c =
    others_both c.args.layout.now (g.D.Load.size c.args.parts.now) (g.D.Parts.hidden c.args.parts.now) (g.D.Cells.words c.args.parts.now) (g.D.Cells.words c.delete_here.new.parts)
    (g.D.Cells.words c.end_value.new.parts) (g.D.Parts.beside c.args.parts.now) (g.D.Parts.beside c.end_value.new.parts) c.requires.fits c.requires.behind c.delete_here.ensures.frame (frees g c)
    (put_count (g.D.Parts.beside c.args.parts.now) (g.D.Parts.beside c.end_value.new.parts) (g.D.Parts.beside c.delete_here.new.parts) c.args.slot Dead c.delete_here.ensures.beside c.end_value.ensures.beside)
    (put_held (g.D.Parts.beside c.args.parts.now) (g.D.Parts.beside c.end_value.new.parts) (g.D.Parts.beside c.delete_here.new.parts) c.args.slot Dead c.delete_here.ensures.beside c.end_value.ensures.beside)

pub returns-clause-stands : goal.returns-clause-stands
returns-clause-stands g c = λ m t.
    let i = g.D.Cells.words c.args.parts.now in
    let j = g.D.Cells.words c.delete_here.new.parts in
    let k = g.D.Cells.words c.end_value.new.parts in
    let b = g.D.Parts.beside c.args.parts.now in
    subst (λ (d : Beside). StandsFor c.args.layout.now k d m.shown (around t.stands.rows t.row t.place)) (sym (value g c))
    (left_here c.args.layout.now i j k b m c.args.slot (g.D.Parts.hidden c.args.parts.now) t (fits g c) c.requires.behind c.delete_here.ensures.frame (frees g c)
    (c.delete_here.ensures.stands m.shown (entries_in t.place.front) (entries_in t.place.back) t.row.1.0 (entry_at c.args.layout.now i b m c.args.slot t)))

pub returns-clause-pool : goal.returns-clause-pool
returns-clause-pool g c = λ lasts old.
    let o = c.requires.occupied in
    let i = g.D.Cells.words c.args.parts.now in
    let j = g.D.Cells.words c.delete_here.new.parts in
    let k = g.D.Cells.words c.end_value.new.parts in
    let a = c.args.layout.now.states in
    let es = entries_in o.at.place.front ++ entries_in o.at.place.back in
    subst (λ (xs : List ℕ). PoolFits (g.P.Pool.capacity c.delete_here.new.pool) (g.P.Pool.taken c.delete_here.new.pool) (g.P.Pool.gives c.delete_here.new.pool) (g.P.Pool.takes c.delete_here.new.pool) a.slots xs)
    (sym (slots_behind c.args.layout.now j k (with_states o.machine.shown (records_in es)) es (g.D.Parts.hidden c.args.parts.now)
    (subst (λ (n : ℕ). Fits c.args.layout.now n) (sym c.delete_here.ensures.frame.size) (fits g c)) c.requires.behind (frees g c)
    (c.delete_here.ensures.stands o.machine.shown (entries_in o.at.place.front) (entries_in o.at.place.back) o.at.row.1.0
    (entry_at c.args.layout.now i (g.D.Parts.beside c.args.parts.now) o.machine c.args.slot o.at))))
    (c.delete_here.ensures.pool lasts old)

-- the words stand for the others
after : (g : given.Over) (c : goal.After-end_value g)
    → StatesStand c.args.layout.now.states (g.D.Cells.words c.end_value.new.parts)
    (with_states c.requires.occupied.machine.shown (records_in (entries_in c.requires.occupied.at.place.front ++ entries_in c.requires.occupied.at.place.back)))
    (entries_in c.requires.occupied.at.place.front ++ entries_in c.requires.occupied.at.place.back)
after g c =
    let o = c.requires.occupied in
    let j = g.D.Cells.words c.delete_here.new.parts in
    let es = entries_in o.at.place.front ++ entries_in o.at.place.back in
    states_behind c.args.layout.now j (g.D.Cells.words c.end_value.new.parts) (with_states o.machine.shown (records_in es)) es (g.D.Parts.hidden c.args.parts.now)
    (subst (λ (n : ℕ). Fits c.args.layout.now n) (sym c.delete_here.ensures.frame.size) (fits g c)) c.requires.behind (frees g c)
    (c.delete_here.ensures.stands o.machine.shown (entries_in o.at.place.front) (entries_in o.at.place.back) o.at.row.1.0
    (entry_at c.args.layout.now (g.D.Cells.words c.args.parts.now) (g.D.Parts.beside c.args.parts.now) o.machine c.args.slot o.at))

pub returns-clause-less : goal.returns-clause-less
returns-clause-less g c =
    let o = c.requires.occupied in
    list_less c.args.layout.now (g.D.Cells.words c.args.parts.now) (g.D.Cells.words c.end_value.new.parts) (g.D.Parts.beside c.args.parts.now) o.machine c.args.slot _ o.at (after g c)

pub returns-clause-list : goal.returns-clause-list
returns-clause-list g c =
    let o = c.requires.occupied in
    list_left c.args.layout.now (g.D.Cells.words c.args.parts.now) (g.D.Cells.words c.end_value.new.parts) (g.D.Parts.beside c.args.parts.now) o.machine c.args.slot _ o.at (after g c)

pub returns-clause-places : goal.returns-clause-places
returns-clause-places g c =
    let o = c.requires.occupied in
    place_left c.args.layout.now (g.D.Cells.words c.args.parts.now) (g.D.Cells.words c.end_value.new.parts) (g.D.Parts.beside c.args.parts.now) o.machine c.args.slot _ o.at c.requires.held
    (after g c)
