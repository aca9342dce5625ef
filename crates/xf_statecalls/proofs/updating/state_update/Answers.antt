use Rattle.std.proofs.Common.{◌≡◌, ℕ, List, Option, Some, ap, sym, ◌∙◌, subst, ◌⊎◌}
use Rattle.xf_types.specs.declared.call.Call.TheVariants.{StateUpdate}
use Rattle.xf_types.specs.declared.call.Reply.TheVariants as reply
use Rattle.xf_types.specs.declared.state.SaId.{SaId}
use Rattle.xf_types.specs.StateList.{has_id, id_of}
use Rattle.xf_index.specs.Finds.{slot_found}
use Rattle.xf_sadidx.specs.Founds.{latest_in}
use Rattle.xf_sadimage.specs.States.{StatesStand}
use Rattle.xf_sad.specs.Lookups.{named_in}
use Rattle.xf_sad.specs.Places.{SlotCame}
use Rattle.xf_sad.specs.Slots.{listed_in}
use Rattle.xf_sad.proofs.Rules.{named_is}
use Rattle.xf_rows.specs.Rows.{entries_in}
use Rattle.xf_rows.specs.Values.{Beside}
use Rattle.xf_rows.proofs.Finding.{none_latest}
use Rattle.xf_statecalls.proofs.Others.{others_none}
use Rattle.xf_statecalls.proofs.Placed.{places_as, places_same}
use Rattle.xf_statecalls.proofs.Renewed.{not_updated}
use Rattle.xf_statecalls.proofs.Replied.{answers_same, stands_same}
use Rattle.xf_statecalls.proofs.updating.state_update.Goals as goal

pub state_update_at-requires-clause-held : goal.state_update_at-requires-clause-held
state_update_at-requires-clause-held g c = ap (λ (b : Beside). b.held c.in-Some.slot) c.in-Some.ensures.beside ∙ c.requires.turns c.in-Some.slot

pub state_update_at-requires-clause-found : goal.state_update_at-requires-clause-found
state_update_at-requires-clause-found g c = λ s es st.
    c.in-Some.ensures.answer s es (subst (λ (i : List ℕ). StatesStand c.args.layout.now.states i s es) c.in-Some.ensures.words st)
    ∙ ap (λ (id : SaId). slot_found (latest_in (has_id id) es)) c.id_of-id.ensures

pub returns-in-None-clause-others : goal.returns-in-None-clause-others
returns-in-None-clause-others g c =
    others_none c.args.layout.now (g.D.Parts.hidden c.args.parts.now) (g.D.Cells.words c.args.parts.now) _ (g.D.Parts.beside c.args.parts.now) _ c.in-None.ensures.words c.in-None.ensures.beside

pub returns-in-None-clause-answer : goal.returns-in-None-clause-answer
returns-in-None-clause-answer g c = λ m r.
    answers_same c.args.layout.now (g.D.Cells.words c.args.parts.now) _ (g.D.Parts.beside c.args.parts.now) _ m (StateUpdate c.args.spec.now) reply.NoState c.in-None.ensures.words c.in-None.ensures.beside
    (not_updated c.args.layout.now (g.D.Cells.words c.args.parts.now) (g.D.Parts.beside c.args.parts.now) m c.args.spec.now r
    (none_latest c.args.layout.now (g.D.Cells.words c.args.parts.now) (g.D.Parts.beside c.args.parts.now) m (has_id (id_of c.args.spec.now)) r
    (sym (c.in-None.ensures.answer m.shown (entries_in r.rows) r.on_states ∙ ap (λ (id : SaId). slot_found (latest_in (has_id id) (entries_in r.rows))) c.id_of-id.ensures))))

pub returns-in-Some-clause-refused : goal.returns-in-Some-clause-refused
returns-in-Some-clause-refused g c = λ refuses.
    let same = c.state_update_at.ensures.refused refuses in
    record { words = same.words ∙ c.in-Some.ensures.words; values = same.values ∙ c.in-Some.ensures.beside; begun = same.begun ∙ c.in-Some.ensures.begun }

pub returns-in-Some-clause-answer : goal.returns-in-Some-clause-answer
returns-in-Some-clause-answer g c = λ m r.
    c.state_update_at.ensures.answer m
    (stands_same c.args.layout.now (g.D.Cells.words c.args.parts.now) _ (g.D.Parts.beside c.args.parts.now) _ m c.in-Some.ensures.words c.in-Some.ensures.beside r)

pub returns-in-None-clause-places : goal.returns-in-None-clause-places
returns-in-None-clause-places g c =
    places_same c.args.layout.now (g.D.Cells.words c.args.parts.now) (g.D.Cells.words c.found_here.new.parts) (g.D.Parts.beside c.args.parts.now) c.requires.stands c.in-None.ensures.words

pub returns-in-Some-clause-places : goal.returns-in-Some-clause-places
returns-in-Some-clause-places g c =
    places_as c.args.layout.now.states (g.D.Cells.words c.args.parts.now) (g.D.Cells.words c.found_here.new.parts) (g.D.Cells.words c.state_update_at.new.parts)
    (g.D.Parts.beside c.args.parts.now) (g.D.Parts.beside c.found_here.new.parts) c.in-Some.ensures.words c.in-Some.ensures.beside c.state_update_at.ensures.places

pub returns-in-Some-clause-given : goal.returns-in-Some-clause-given
returns-in-Some-clause-given g c = λ done.
    let a = c.args.layout.now in
    let i = g.D.Cells.words c.args.parts.now in
    let k = g.D.Cells.words c.state_update_at.new.parts in
    let m = c.requires.stands.machine in
    let r = c.requires.stands.stands in
    let id = id_of c.args.spec.now in
    let named : Some c.in-Some.slot ≡ named_in a.states i id =
    c.in-Some.ensures.answer m.shown (entries_in r.rows) r.on_states ∙ ap (λ (x : SaId). slot_found (latest_in (has_id x) (entries_in r.rows))) c.id_of-id.ensures
    ∙ sym (named_is a.states i m.shown (entries_in r.rows) id r.on_states) in
    subst (λ (o : Option ℕ). SlotCame (g.P.Pool.gives c.args.pool.now) o (listed_in a.states i) (listed_in a.states k) ⊎ (listed_in a.states k ≡ listed_in a.states i)) named
    (subst (λ (w : List ℕ). SlotCame (g.P.Pool.gives c.args.pool.now) (Some c.in-Some.slot) (listed_in a.states w) (listed_in a.states k) ⊎ (listed_in a.states k ≡ listed_in a.states w))
    c.in-Some.ensures.words (c.state_update_at.ensures.given done))
