use Rattle.std.proofs.Common.{◌≡◌, ℕ, true, List, ◌∷◌, ◌++◌, Option, ap, sym, ◌∙◌, subst, arith, append-nil}
use Rattle.xf_types.specs.declared.call.Event.{Event}
use Rattle.xf_sadimage.specs.States.{StatesStand}
use Rattle.xf_local.specs.View.{event_of}
use Rattle.xf_rows.specs.Rows.{entries_in}
use Rattle.xf_rows.specs.Values.{Beside, at}
use Rattle.xf_rows.proofs.Later.{events_are}
use Rattle.xf_ticking.specs.Walks.{Telling}
use Rattle.xf_ticking.proofs.Tells.{turns_are, turn_told, telling_begins, telling_goes, telling_ends, telling_stops, events_more}
use Rattle.xf_ticking.proofs.telling.state_events.Goals as goal

pub slots-init : goal.slots-init
slots-init g c =
    let first = c.first_slot-at in
    let before : List Event = c.args.events.now.items in
    record {
      size = first.ensures.size;
      begun = first.ensures.begun;
      rest = first.ensures.rest;
      words = first.ensures.words;
      hidden = first.ensures.hidden;
      beside = first.ensures.beside;
      below = first.ensures.below;
      telling = λ s es st.
          telling_begins c.args.layout.now.states (g.D.Cells.words c.args.parts.now) c.args.now (g.D.Parts.beside c.args.parts.now) s es first.result
          (λ (xs : List Event). before ≡ before ++ xs) st (turns_are c.args.layout.now (g.D.Cells.words c.args.parts.now) (g.D.Parts.beside c.args.parts.now) s es st c.requires.turns)
          (first.ensures.answer s es st) (sym (append-nil before));
    }

pub event-event-requires-clause-held : goal.event-event-requires-clause-held
event-event-requires-clause-held g c =
    let k = c.slots.invariant in
    let h = c.requires.stood in
    let b : Beside = g.D.Parts.beside c.args.parts.now in
    subst (λ (x : Beside). x.held c.in-Some.slot ≡ true) (sym k.beside)
    (turn_told c.args.now b h.entries c.in-Some.slot c.slots.at c.slots.left (λ (xs : List Event). c.slots.events.items ≡ c.args.events.now.items ++ xs) c.in-Some.is (k.telling h.shown h.entries h.stands))

pub slots-preserved : goal.slots-preserved
slots-preserved g c =
    let a = c.args.layout.now.states in
    let b : Beside = g.D.Parts.beside c.args.parts.now in
    let before : List Event = c.args.events.now.items in
    let k = c.slots.invariant in
    let heard = c.event-event in
    let pushed = c.push_some in
    let next = c.next_slot-at in
    let w : g.D.Cells.words heard.new.self ≡ g.D.Cells.words c.args.parts.now = heard.ensures.words ∙ k.words in
    record {
      size = next.ensures.size ∙ (heard.ensures.size ∙ k.size);
      begun = next.ensures.begun ∙ (heard.ensures.begun ∙ k.begun);
      rest = next.ensures.rest ∙ (heard.ensures.rest ∙ k.rest);
      words = next.ensures.words ∙ w;
      hidden = next.ensures.hidden ∙ (heard.ensures.hidden ∙ k.hidden);
      beside = next.ensures.beside ∙ (heard.ensures.beside ∙ k.beside);
      below = next.ensures.below;
      telling = λ s es st.
          telling_goes a (g.D.Cells.words c.args.parts.now) c.args.now b s es c.in-Some.slot next.result c.slots.left
          (λ (xs : List Event). c.slots.events.items ≡ before ++ xs) (λ (xs : List Event). pushed.new.events.items ≡ before ++ xs) st
          (subst (λ (o : Option ℕ). Telling c.args.now b es o c.slots.left (λ (xs : List Event). c.slots.events.items ≡ before ++ xs)) c.in-Some.is (k.telling s es st))
          (λ t front back r there. next.ensures.answer t front back r
          (subst (λ (i : List ℕ). StatesStand a i t (front ++ ((c.in-Some.slot, r) ∷ back))) (sym w) there))
          (λ xs stand. events_more before c.slots.events.items pushed.new.events.items heard.result (event_of c.args.now (at b c.in-Some.slot)) xs
          (heard.ensures.event ∙ ap (λ (x : Beside). event_of c.args.now (at x c.in-Some.slot)) k.beside) c.in_ok-push_some.ensures stand);
    }

pub returns-in_default-clause-answer : goal.returns-in_default-clause-answer
returns-in_default-clause-answer g c = λ m r.
    let b : Beside = g.D.Parts.beside c.args.parts.now in
    let before : List Event = c.args.events.now.items in
    telling_stops c.args.now b (entries_in r.rows) c.slots.at c.slots.left (λ (xs : List Event). c.slots.events.items ≡ before ++ xs) c.in_default.is
    (c.slots.invariant.telling m.shown (entries_in r.rows) r.on_states)
    ∙ ap (λ (xs : List Event). before ++ xs) (events_are c.args.layout.now (g.D.Cells.words c.args.parts.now) b m c.args.now r
    (turns_are c.args.layout.now (g.D.Cells.words c.args.parts.now) b m.shown (entries_in r.rows) r.on_states c.requires.turns))

pub returns-clause-answer : goal.returns-clause-answer
returns-clause-answer g c = λ m r.
    let b : Beside = g.D.Parts.beside c.args.parts.now in
    let before : List Event = c.args.events.now.items in
    let f = c.slots-test.false in
    telling_ends c.args.now b (entries_in r.rows) c.slots.at c.slots.left (λ (xs : List Event). c.slots.events.items ≡ before ++ xs) (omega (arith, f))
    (c.slots.invariant.telling m.shown (entries_in r.rows) r.on_states)
    ∙ ap (λ (xs : List Event). before ++ xs) (events_are c.args.layout.now (g.D.Cells.words c.args.parts.now) b m c.args.now r
    (turns_are c.args.layout.now (g.D.Cells.words c.args.parts.now) b m.shown (entries_in r.rows) r.on_states c.requires.turns))
