use Rattle.std.proofs.Common.{◌≡◌, ℕ, List, Some, ap, sym, ◌∙◌, subst, inl, inr}
use Rattle.xf_asked.proofs.FieldLaws.{larval_is}
use Rattle.xf_sadidx.specs.Layout.{record_at, record_place}
use Rattle.xf_sadimage.specs.States.{StatesStand}
use Rattle.xf_sad.specs.Places.{SlotCame}
use Rattle.xf_sad.specs.Slots.{PoolFits, listed_in}
use Rattle.xf_rows.specs.Values.{Beside}
use Rattle.xf_statecalls.specs.Ready.{Stood}
use Rattle.xf_statecalls.proofs.Others.{others_as}
use Rattle.xf_statecalls.proofs.Placed.{places_as}
use Rattle.xf_statecalls.proofs.Replied.{stands_same}
use Rattle.xf_statecalls.proofs.updating.state_update_at.Goals as goal

pub update_larval-requires-clause-larval : goal.update_larval-requires-clause-larval
update_larval-requires-clause-larval g c = λ r is.
    let here = subst (λ (i : List ℕ). record_at c.args.layout.now.states i c.args.slot ≡ Some r) c.larval_here-larval.ensures.words is in
    sym (larval_is (g.D.Cells.words c.args.parts.now) (record_place c.args.layout.now.states c.args.slot) r here) ∙ sym c.larval_here-larval.ensures.answer ∙ c.if-larval.true

pub update_larval-requires-clause-held : goal.update_larval-requires-clause-held
update_larval-requires-clause-held g c = ap (λ (b : Beside). b.held c.args.slot) c.larval_here-larval.ensures.beside ∙ c.requires.held

pub update_larval-requires-clause-found : goal.update_larval-requires-clause-found
update_larval-requires-clause-found g c = λ s es st.
    c.requires.found s es (subst (λ (i : List ℕ). StatesStand c.args.layout.now.states i s es) c.larval_here-larval.ensures.words st)

pub state_refresh_ready-requires-clause-used : goal.state_refresh_ready-requires-clause-used
state_refresh_ready-requires-clause-used g c = λ r is.
    let here = subst (λ (i : List ℕ). record_at c.args.layout.now.states i c.args.slot ≡ Some r) c.larval_here-larval.ensures.words is in
    sym (larval_is (g.D.Cells.words c.args.parts.now) (record_place c.args.layout.now.states c.args.slot) r here) ∙ sym c.larval_here-larval.ensures.answer ∙ c.if-larval.false

pub state_refresh_ready-requires-clause-stands : goal.state_refresh_ready-requires-clause-stands
state_refresh_ready-requires-clause-stands g c =
    subst (λ (b : Beside). Stood c.args.layout.now (g.D.Cells.words c.larval_here-larval.new.parts) b) (sym c.larval_here-larval.ensures.beside)
    (subst (λ (i : List ℕ). Stood c.args.layout.now i (g.D.Parts.beside c.args.parts.now)) (sym c.larval_here-larval.ensures.words) c.requires.stands)

pub state_refresh_ready-requires-clause-held : goal.state_refresh_ready-requires-clause-held
state_refresh_ready-requires-clause-held g c = ap (λ (b : Beside). b.held c.args.slot) c.larval_here-larval.ensures.beside ∙ c.requires.held

pub state_refresh_ready-requires-clause-found : goal.state_refresh_ready-requires-clause-found
state_refresh_ready-requires-clause-found g c = λ s es st.
    c.requires.found s es (subst (λ (i : List ℕ). StatesStand c.args.layout.now.states i s es) c.larval_here-larval.ensures.words st)

pub returns-then-larval-clause-others : goal.returns-then-larval-clause-others
returns-then-larval-clause-others g c =
    others_as c.args.layout.now (g.D.Parts.hidden c.args.parts.now) (g.D.Parts.hidden c.larval_here-larval.new.parts) (g.D.Cells.words c.args.parts.now) (g.D.Cells.words c.larval_here-larval.new.parts)
    (g.D.Cells.words c.update_larval.new.parts) (g.D.Parts.beside c.args.parts.now) (g.D.Parts.beside c.larval_here-larval.new.parts) (g.D.Parts.beside c.update_larval.new.parts)
    c.larval_here-larval.ensures.hidden c.larval_here-larval.ensures.words c.larval_here-larval.ensures.beside c.update_larval.ensures.others

pub returns-then-larval-clause-refused : goal.returns-then-larval-clause-refused
returns-then-larval-clause-refused g c = λ refuses.
    let same = c.update_larval.ensures.refused refuses in
    record {
      words = same.words ∙ c.larval_here-larval.ensures.words;
      values = same.values ∙ c.larval_here-larval.ensures.beside;
      begun = same.begun ∙ c.larval_here-larval.ensures.begun;
    }

pub returns-then-larval-clause-answer : goal.returns-then-larval-clause-answer
returns-then-larval-clause-answer g c = λ m r.
    c.update_larval.ensures.answer m
    (stands_same c.args.layout.now (g.D.Cells.words c.args.parts.now) _ (g.D.Parts.beside c.args.parts.now) _ m c.larval_here-larval.ensures.words c.larval_here-larval.ensures.beside r)

pub returns-clause-others : goal.returns-clause-others
returns-clause-others g c =
    others_as c.args.layout.now (g.D.Parts.hidden c.args.parts.now) (g.D.Parts.hidden c.larval_here-larval.new.parts) (g.D.Cells.words c.args.parts.now) (g.D.Cells.words c.larval_here-larval.new.parts)
    (g.D.Cells.words c.state_refresh_ready.new.parts) (g.D.Parts.beside c.args.parts.now) (g.D.Parts.beside c.larval_here-larval.new.parts) (g.D.Parts.beside c.state_refresh_ready.new.parts)
    c.larval_here-larval.ensures.hidden c.larval_here-larval.ensures.words c.larval_here-larval.ensures.beside c.state_refresh_ready.ensures.others

pub returns-clause-answer : goal.returns-clause-answer
returns-clause-answer g c = λ m r.
    c.state_refresh_ready.ensures.answer m
    (stands_same c.args.layout.now (g.D.Cells.words c.args.parts.now) _ (g.D.Parts.beside c.args.parts.now) _ m c.larval_here-larval.ensures.words c.larval_here-larval.ensures.beside r)

pub returns-clause-pool : goal.returns-clause-pool
returns-clause-pool g c = λ lasts.
    subst (λ (xs : List ℕ). PoolFits (g.P.Pool.capacity c.args.pool.now) (g.P.Pool.taken c.args.pool.now) (g.P.Pool.gives c.args.pool.now) (g.P.Pool.takes c.args.pool.now) c.args.layout.now.states.slots xs)
    (sym (c.state_refresh_ready.ensures.slots ∙ ap (λ (i : List ℕ). listed_in c.args.layout.now.states i) c.larval_here-larval.ensures.words)) c.requires.pool

pub returns-then-larval-clause-given : goal.returns-then-larval-clause-given
returns-then-larval-clause-given g c = λ done.
    inl (subst (λ (w : List ℕ). SlotCame (g.P.Pool.gives c.args.pool.now) (Some c.args.slot) (listed_in c.args.layout.now.states w) (listed_in c.args.layout.now.states (g.D.Cells.words c.update_larval.new.parts)))
    c.larval_here-larval.ensures.words (c.update_larval.ensures.given done))

pub returns-then-larval-clause-places : goal.returns-then-larval-clause-places
returns-then-larval-clause-places g c =
    places_as c.args.layout.now.states (g.D.Cells.words c.args.parts.now) (g.D.Cells.words c.larval_here-larval.new.parts) (g.D.Cells.words c.update_larval.new.parts)
    (g.D.Parts.beside c.args.parts.now) (g.D.Parts.beside c.larval_here-larval.new.parts) c.larval_here-larval.ensures.words c.larval_here-larval.ensures.beside c.update_larval.ensures.places

pub returns-clause-given : goal.returns-clause-given
returns-clause-given g c = λ done.
    inr (c.state_refresh_ready.ensures.slots ∙ ap (λ (w : List ℕ). listed_in c.args.layout.now.states w) c.larval_here-larval.ensures.words)

pub returns-clause-places : goal.returns-clause-places
returns-clause-places g c =
    places_as c.args.layout.now.states (g.D.Cells.words c.args.parts.now) (g.D.Cells.words c.larval_here-larval.new.parts) (g.D.Cells.words c.state_refresh_ready.new.parts)
    (g.D.Parts.beside c.args.parts.now) (g.D.Parts.beside c.larval_here-larval.new.parts) c.larval_here-larval.ensures.words c.larval_here-larval.ensures.beside c.state_refresh_ready.ensures.places
