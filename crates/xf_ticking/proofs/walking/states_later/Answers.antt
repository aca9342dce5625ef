use Rattle.std.proofs.Common.{◌≡◌, ℕ, true, List, length, ◌∷◌, ◌++◌, Option, refl, ap, sym, ◌∙◌, subst, arith}
use Rattle.xf_types.specs.declared.call.Event.{Event}
use Rattle.xf_sadidx.specs.Layout.{end_of}
use Rattle.xf_sadimage.specs.States.{StatesStand}
use Rattle.xf_sad.specs.Slots.{listed_in}
use Rattle.xf_local.specs.View.{event_of}
use Rattle.xf_rows.specs.Values.{Beside, at}
use Rattle.xf_policies.proofs.Others.{others_none, others_as, others_twice}
use Rattle.xf_ticking.specs.Dues.{due_by}
use Rattle.xf_ticking.specs.Ready.{FitsStates}
use Rattle.xf_ticking.specs.Walks.{HasState, Aging}
use Rattle.xf_ticking.proofs.Ages.{aging_begins, aging_goes, aging_ends, aging_stops, comes_here, turn_here, takes_back}
use Rattle.xf_ticking.proofs.Tells.{turns_are}
use Rattle.xf_ticking.proofs.walking.states_later.Goals as goal

pub slots-init : goal.slots-init
slots-init g c =
    let layout = c.args.layout.now in
    let a = layout.states in
    let b : Beside = g.D.Parts.beside c.args.parts.now in
    let first = c.first_slot-at in
    record {
      size = first.ensures.size;
      hidden = first.ensures.hidden;
      beside = first.ensures.beside;
      capacity = refl;
      lasts = refl;
      held = refl;
      below = first.ensures.below;
      others = others_none (g.D.Parts.hidden c.args.parts.now) a.base (end_of a) (g.D.Cells.words c.args.parts.now) (g.D.Cells.words first.new.parts) first.ensures.words;
      aging = λ s es st.
          subst (λ (i : List ℕ). Aging a i c.args.now b s es first.result a.slots) (sym first.ensures.words)
          (aging_begins a (g.D.Cells.words c.args.parts.now) c.args.now b s es first.result st (turns_are layout (g.D.Cells.words c.args.parts.now) b s es st c.requires.turns)
          (first.ensures.answer s es st));
      out = c.requires.pool.taken ∙ ap (λ (i : List ℕ). length (listed_in a i)) (sym first.ensures.words);
      pool = λ lasts. subst (λ (i : List ℕ). FitsStates layout i (g.P.Pool.capacity c.args.pool.now) (g.P.Pool.taken c.args.pool.now) (g.P.Pool.gives c.args.pool.now) (g.P.Pool.takes c.args.pool.now)) (sym first.ensures.words) c.requires.pool;
    }

pub event-requires-clause-held : goal.event-requires-clause-held
event-requires-clause-held g c =
    let a = c.args.layout.now.states in
    subst (λ (x : Beside). x.held c.in-Some.slot ≡ true) (sym c.slots.invariant.beside)
    (turn_here a (g.D.Cells.words c.args.parts.now) (g.D.Cells.words c.slots.parts) c.args.now (g.D.Parts.beside c.args.parts.now) c.in-Some.slot c.slots.left c.slots.at
    c.in-Some.is c.requires.stood c.slots.invariant.aging)

pub settle-requires-clause-listed : goal.settle-requires-clause-listed
settle-requires-clause-listed g c =
    let a = c.args.layout.now.states in
    subst (λ (i : List ℕ). HasState a i c.in-Some.slot) (sym (c.next_slot-at.ensures.words ∙ c.event.ensures.words))
    (comes_here a (g.D.Cells.words c.args.parts.now) (g.D.Cells.words c.slots.parts) c.args.now (g.D.Parts.beside c.args.parts.now) c.in-Some.slot c.slots.left c.slots.at
    c.in-Some.is c.requires.stood c.slots.invariant.aging)

pub settle-requires-clause-back : goal.settle-requires-clause-back
settle-requires-clause-back g c =
    let a = c.args.layout.now.states in
    takes_back (g.P.Pool.lasts c.args.pool.now) g.P.Pool.taken g.P.Pool.takes c.slots.pool a (g.D.Cells.words c.slots.parts) (g.P.Pool.capacity c.slots.pool) (g.P.Pool.gives c.slots.pool)
    c.in-Some.slot c.requires.back
    (comes_here a (g.D.Cells.words c.args.parts.now) (g.D.Cells.words c.slots.parts) c.args.now (g.D.Parts.beside c.args.parts.now) c.in-Some.slot c.slots.left c.slots.at
    c.in-Some.is c.requires.stood c.slots.invariant.aging) c.slots.invariant.pool c.slots.invariant.out

pub slots-preserved : goal.slots-preserved
slots-preserved g c =
    let layout = c.args.layout.now in
    let a = layout.states in
    let b : Beside = g.D.Parts.beside c.args.parts.now in
    let k = c.slots.invariant in
    let heard = c.event in
    let next = c.next_slot-at in
    let done = c.settle in
    let i : List ℕ = g.D.Cells.words c.args.parts.now in
    let j : List ℕ = g.D.Cells.words c.slots.parts in
    let w : g.D.Cells.words next.new.parts ≡ j = next.ensures.words ∙ heard.ensures.words in
    let hidden : ℕ = g.D.Parts.hidden c.args.parts.now in
    let same : g.D.Parts.hidden next.new.parts ≡ hidden = next.ensures.hidden ∙ (heard.ensures.hidden ∙ k.hidden) in
    record {
      size = done.ensures.size ∙ (next.ensures.size ∙ (heard.ensures.size ∙ k.size));
      hidden = done.ensures.hidden ∙ same;
      beside = done.ensures.beside ∙ (next.ensures.beside ∙ (heard.ensures.beside ∙ k.beside));
      capacity = done.ensures.capacity ∙ k.capacity;
      lasts = done.ensures.lasts ∙ k.lasts;
      held = done.ensures.held ∙ k.held;
      below = next.ensures.below;
      others = others_twice hidden a.base (end_of a) i j (g.D.Cells.words done.new.parts) k.others
          (others_as hidden (g.D.Parts.hidden next.new.parts) a.base (end_of a) j (g.D.Cells.words next.new.parts) (g.D.Cells.words done.new.parts) same w done.ensures.others);
      aging = λ s es st.
          aging_goes a j (g.D.Cells.words done.new.parts) c.args.now b s es c.in-Some.slot next.result c.slots.left c.by-due.result
          (subst (λ (o : Option ℕ). Aging a j c.args.now b s es o c.slots.left) c.in-Some.is (k.aging s es st))
          (c.by-due.ensures ∙ ap (λ (o : Option Event). due_by o) (heard.ensures.event ∙ ap (λ (x : Beside). event_of c.args.now (at x c.in-Some.slot)) k.beside))
          (λ t front back r there. next.ensures.answer t front back r
          (subst (λ (x : List ℕ). StatesStand a x t (front ++ ((c.in-Some.slot, r) ∷ back))) (sym heard.ensures.words) there))
          (λ t front back r there. done.ensures.stands t front back r
          (subst (λ (x : List ℕ). StatesStand a x t (front ++ ((c.in-Some.slot, r) ∷ back))) (sym w) there));
      out = done.ensures.out (k.out ∙ ap (λ (x : List ℕ). length (listed_in a x)) (sym w));
      pool = λ lasts. done.ensures.pool (k.lasts ∙ lasts)
          (subst (λ (x : List ℕ). FitsStates layout x (g.P.Pool.capacity c.slots.pool) (g.P.Pool.taken c.slots.pool) (g.P.Pool.gives c.slots.pool) (g.P.Pool.takes c.slots.pool)) (sym w) (k.pool lasts));
    }

pub returns-in_default-clause-later : goal.returns-in_default-clause-later
returns-in_default-clause-later g c = λ s es st.
    aging_stops c.args.layout.now.states (g.D.Cells.words c.slots.parts) c.args.now (g.D.Parts.beside c.args.parts.now) s es c.slots.at c.slots.left c.in_default.is
    (c.slots.invariant.aging s es st)

pub returns-clause-later : goal.returns-clause-later
returns-clause-later g c = λ s es st.
    let f = c.slots-test.false in
    aging_ends c.args.layout.now.states (g.D.Cells.words c.slots.parts) c.args.now (g.D.Parts.beside c.args.parts.now) s es c.slots.at c.slots.left (omega (arith, f))
    (c.slots.invariant.aging s es st)
