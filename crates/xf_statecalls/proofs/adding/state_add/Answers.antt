use Rattle.std.proofs.Common.{◌≡◌, ℕ, true, List, Option, ap, sym, ◌∙◌, subst}
use Rattle.xf_sadimage.specs.States.{StatesStand}
use Rattle.xf_sad.specs.Places.{SlotCame}
use Rattle.xf_sad.specs.Slots.{listed_in}
use Rattle.xf_sad.proofs.Rules.{replaced_is}
use Rattle.xf_rows.specs.Rows.{entries_in}
use Rattle.xf_rows.specs.Values.{Beside}
use Rattle.xf_statecalls.proofs.Placed.{places_as}
use Rattle.xf_statecalls.proofs.Replied.{stands_same}
use Rattle.xf_statecalls.proofs.Standing.{where_all}
use Rattle.xf_statecalls.proofs.adding.state_add.Goals as goal

pub state_add_at-requires-clause-held : goal.state_add_at-requires-clause-held
state_add_at-requires-clause-held g c =
    where_all (λ (slot : ℕ). (g.D.Parts.beside c.replaced_here-gone.new.parts).held slot ≡ true) c.replaced_here-gone.result
    (λ slot. ap (λ (b : Beside). b.held slot) c.replaced_here-gone.ensures.beside ∙ c.requires.turns slot)

pub state_add_at-requires-clause-found : goal.state_add_at-requires-clause-found
state_add_at-requires-clause-found g c = λ s es st.
    c.replaced_here-gone.ensures.answer s es (subst (λ (i : List ℕ). StatesStand c.args.layout.now.states i s es) c.replaced_here-gone.ensures.words st)

pub returns-clause-refused : goal.returns-clause-refused
returns-clause-refused g c = λ refuses.
    let same = c.state_add_at.ensures.refused refuses in
    record {
      words = same.words ∙ c.replaced_here-gone.ensures.words;
      values = same.values ∙ c.replaced_here-gone.ensures.beside;
      begun = same.begun ∙ c.replaced_here-gone.ensures.begun;
    }

pub returns-clause-answer : goal.returns-clause-answer
returns-clause-answer g c = λ m r.
    c.state_add_at.ensures.answer m
    (stands_same c.args.layout.now (g.D.Cells.words c.args.parts.now) _ (g.D.Parts.beside c.args.parts.now) _ m c.replaced_here-gone.ensures.words c.replaced_here-gone.ensures.beside r)

pub returns-clause-given : goal.returns-clause-given
returns-clause-given g c = λ done.
    let a = c.args.layout.now in
    let k = g.D.Cells.words c.state_add_at.new.parts in
    let m = c.requires.stands.machine in
    let r = c.requires.stands.stands in
    let gone = c.replaced_here-gone.ensures.answer m.shown (entries_in r.rows) r.on_states
    ∙ sym (replaced_is a.states (g.D.Cells.words c.args.parts.now) m.shown (entries_in r.rows) c.args.spec.now r.on_states) in
    subst (λ (o : Option ℕ). SlotCame (g.P.Pool.gives c.args.pool.now) o (listed_in a.states (g.D.Cells.words c.args.parts.now)) (listed_in a.states k)) gone
    (subst (λ (w : List ℕ). SlotCame (g.P.Pool.gives c.args.pool.now) c.replaced_here-gone.result (listed_in a.states w) (listed_in a.states k)) c.replaced_here-gone.ensures.words
    (c.state_add_at.ensures.given done))

pub returns-clause-places : goal.returns-clause-places
returns-clause-places g c =
    places_as c.args.layout.now.states (g.D.Cells.words c.args.parts.now) (g.D.Cells.words c.replaced_here-gone.new.parts) (g.D.Cells.words c.state_add_at.new.parts)
    (g.D.Parts.beside c.args.parts.now) (g.D.Parts.beside c.replaced_here-gone.new.parts) c.replaced_here-gone.ensures.words c.replaced_here-gone.ensures.beside c.state_add_at.ensures.places
