use Rattle.std.proofs.Common.{◌≡◌, ℕ, ◌-◌, List, length, ◌∷◌, ◌++◌, ap, sym, ◌∙◌, subst, arith}
use Rattle.xf_sadimage.specs.States.{StatesStand}
use Rattle.xf_rows.specs.Values.{Beside}
use Rattle.xf_ticking.proofs.Enters.{Entering, turns_entered, entering_begins, entering_goes, entering_ends, entering_stops, early_here}
use Rattle.xf_ticking.proofs.entering.enter_all.Goals as goal

pub slots-init : goal.slots-init
slots-init g c =
    let first = c.first_slot-at in
    record {
      size = first.ensures.size;
      begun = first.ensures.begun;
      words = first.ensures.words;
      hidden = first.ensures.hidden;
      count = ap (λ (b : Beside). length b.values) first.ensures.beside;
      below = first.ensures.below;
      entering = λ s es st.
          entering_begins c.args.layout.now.states (g.D.Cells.words c.args.parts.now) s es (g.D.Parts.beside c.args.parts.now) (g.D.Parts.beside first.new.parts) first.result
          first.ensures.beside st (first.ensures.answer s es st);
    }

pub enter-requires-clause-early : goal.enter-requires-clause-early
enter-requires-clause-early g c = λ begun.
    early_here c.args.layout.now (g.D.Cells.words c.args.parts.now) (g.D.Parts.beside c.args.parts.now) (g.D.Parts.beside c.slots.parts) c.in-Some.slot c.slots.left c.slots.at
    c.in-Some.is c.requires.stood c.slots.invariant.entering (c.requires.early (sym c.slots.invariant.begun ∙ begun))

pub slots-preserved : goal.slots-preserved
slots-preserved g c =
    let a = c.args.layout.now.states in
    let k = c.slots.invariant in
    let took = c.enter in
    let next = c.next_slot-at in
    let w : g.D.Cells.words took.new.self ≡ g.D.Cells.words c.args.parts.now = took.ensures.words ∙ k.words in
    record {
      size = next.ensures.size ∙ (took.ensures.size ∙ k.size);
      begun = next.ensures.begun ∙ (took.ensures.begun ∙ k.begun);
      words = next.ensures.words ∙ w;
      hidden = next.ensures.hidden ∙ (took.ensures.hidden ∙ k.hidden);
      count = ap (λ (b : Beside). length b.values) next.ensures.beside ∙ (took.ensures.count ∙ k.count);
      below = next.ensures.below;
      entering = λ s es st.
          subst (λ (b : Beside). Entering (g.D.Parts.beside c.args.parts.now) b es next.result (c.slots.left - 1)) (sym next.ensures.beside)
          (entering_goes a (g.D.Cells.words c.args.parts.now) s es (g.D.Parts.beside c.args.parts.now) (g.D.Parts.beside c.slots.parts) (g.D.Parts.beside took.new.self)
          c.in-Some.slot c.slots.at next.result c.slots.left st c.in-Some.is (k.entering s es st) took.ensures.count took.ensures.held took.ensures.at
          (λ t front back r there. next.ensures.answer t front back r
          (subst (λ (i : List ℕ). StatesStand a i t (front ++ ((c.in-Some.slot, r) ∷ back))) (sym w) there)));
    }

pub returns-in_default-clause-entered : goal.returns-in_default-clause-entered
returns-in_default-clause-entered g c =
    let h = c.requires.stood in
    entering_stops c.args.layout.now.states (g.D.Cells.words c.args.parts.now) h.shown h.entries (g.D.Parts.beside c.args.parts.now) (g.D.Parts.beside c.slots.parts) c.slots.at c.slots.left
    c.in_default.is h.stands (c.slots.invariant.entering h.shown h.entries h.stands)

pub returns-clause-entered : goal.returns-clause-entered
returns-clause-entered g c =
    let h = c.requires.stood in
    let f = c.slots-test.false in
    entering_ends c.args.layout.now.states (g.D.Cells.words c.args.parts.now) h.shown h.entries (g.D.Parts.beside c.args.parts.now) (g.D.Parts.beside c.slots.parts) c.slots.at c.slots.left
    (omega (arith, f)) h.stands (c.slots.invariant.entering h.shown h.entries h.stands)

pub returns-in_default-clause-turns : goal.returns-in_default-clause-turns
returns-in_default-clause-turns g c =
    let h = c.requires.stood in
    turns_entered c.args.layout.now (g.D.Cells.words c.args.parts.now) (g.D.Cells.words c.slots.parts) (g.D.Parts.beside c.args.parts.now) (g.D.Parts.beside c.slots.parts) c.slots.invariant.words
    (entering_stops c.args.layout.now.states (g.D.Cells.words c.args.parts.now) h.shown h.entries (g.D.Parts.beside c.args.parts.now) (g.D.Parts.beside c.slots.parts) c.slots.at c.slots.left
    c.in_default.is h.stands (c.slots.invariant.entering h.shown h.entries h.stands))

pub returns-clause-turns : goal.returns-clause-turns
returns-clause-turns g c =
    let h = c.requires.stood in
    let f = c.slots-test.false in
    turns_entered c.args.layout.now (g.D.Cells.words c.args.parts.now) (g.D.Cells.words c.slots.parts) (g.D.Parts.beside c.args.parts.now) (g.D.Parts.beside c.slots.parts) c.slots.invariant.words
    (entering_ends c.args.layout.now.states (g.D.Cells.words c.args.parts.now) h.shown h.entries (g.D.Parts.beside c.args.parts.now) (g.D.Parts.beside c.slots.parts) c.slots.at c.slots.left
    (omega (arith, f)) h.stands (c.slots.invariant.entering h.shown h.entries h.stands))
