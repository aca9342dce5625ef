use Rattle.std.proofs.Common.{◌≡◌, ℕ, ◌≤◌, Bool, true, List, length, Option, Some, refl, ap, sym, ◌∙◌, subst, rules, arith, cond}
use Rattle.xf_types.specs.Machine.{Machine}
use Rattle.xf_sadidx.specs.Layout.{record_at}
use Rattle.xf_sad.specs.Slots.{PoolFits, listed_in}
use Rattle.xf_rows.specs.Rows.{entries_in}
use Rattle.xf_rows.specs.Values.{Beside}
use Rattle.xf_statecalls.specs.Choices.{chosen}
use Rattle.xf_statecalls.specs.Left.{RowAt, Occupied, StandsFor}
use Rattle.xf_statecalls.specs.Sweeps.{passed, Sweeping}
use Rattle.xf_statecalls.proofs.Others.{others_none, others_as, others_twice}
use Rattle.xf_statecalls.proofs.Placed.{places_swept}
use Rattle.xf_statecalls.proofs.Standing.{row_kept}
use Rattle.xf_statecalls.proofs.Swept.{held_next, takes_back, sweeping_begins, sweeping_goes, sweeping_ends, sweeping_stops, sweeping_same, comes, started_not, started_more, started_as}
use Rattle.xf_statecalls.proofs.sweeping.remove_all.Given as given
use Rattle.xf_statecalls.proofs.sweeping.remove_all.Goals as goal

pub slots-init : goal.slots-init
slots-init g c =
    let a = c.args.layout.now in
    let i = g.D.Cells.words c.args.parts.now in
    let b = g.D.Parts.beside c.args.parts.now in
    let first = c.first_here-at in
    record {
      size = first.ensures.size;
      hidden = first.ensures.hidden;
      capacity = refl;
      lasts = refl;
      held = refl;
      below = first.ensures.slot;
      few = omega arith;
      others = others_none a (g.D.Parts.hidden c.args.parts.now) i (g.D.Cells.words first.new.parts) b (g.D.Parts.beside first.new.parts) first.ensures.words first.ensures.beside;
      started = started_not i (g.D.Cells.words first.new.parts) b (g.D.Parts.beside first.new.parts) _ _ first.ensures.words first.ensures.beside first.ensures.begun;
      sweeping = λ m t.
          sweeping_same a i (g.D.Cells.words first.new.parts) b (g.D.Parts.beside first.new.parts) (chosen c.args.choice.now) m.shown t.rows first.result a.states.slots 0 first.ensures.words first.ensures.beside
          (sweeping_begins a i b (chosen c.args.choice.now) m first.result t c.requires.turns (first.ensures.answer m.shown (entries_in t.rows) t.on_states));
      out = c.requires.pool.taken ∙ ap (λ (w : List ℕ). length (listed_in a.states w)) (sym first.ensures.words);
      pool = λ lasts. subst (λ (w : List ℕ). PoolFits (g.P.Pool.capacity c.args.pool.now) (g.P.Pool.taken c.args.pool.now) (g.P.Pool.gives c.args.pool.now) (g.P.Pool.takes c.args.pool.now) a.states.slots (listed_in a.states w))
          (sym first.ensures.words) c.requires.pool;
    }

pub pass-gone-requires-clause-behind : goal.pass-gone-requires-clause-behind
pass-gone-requires-clause-behind g c = subst (λ (n : ℕ). n ≤ c.args.layout.now.policies.base) (sym (c.next_here-at.ensures.hidden ∙ c.slots.invariant.hidden)) c.requires.behind

pub pass-gone-requires-clause-held : goal.pass-gone-requires-clause-held
pass-gone-requires-clause-held g c = λ r is yes.
    let n = c.requires.stands in
    let at_slot : Sweeping c.args.layout.now (g.D.Cells.words c.slots.parts) (g.D.Parts.beside c.slots.parts) (chosen c.args.choice.now) n.machine.shown n.stands.rows (Some c.in-Some.slot) c.slots.left c.slots.count =
    subst (λ (x : Option ℕ). Sweeping c.args.layout.now (g.D.Cells.words c.slots.parts) (g.D.Parts.beside c.slots.parts) (chosen c.args.choice.now) n.machine.shown n.stands.rows x c.slots.left c.slots.count) c.in-Some.is
    (c.slots.invariant.sweeping n.machine n.stands) in
    ap (λ (b : Beside). b.held c.in-Some.slot) c.next_here-at.ensures.beside
    ∙ held_next c.args.layout.now (g.D.Cells.words c.slots.parts) (g.D.Parts.beside c.slots.parts) (chosen c.args.choice.now) n.machine.shown n.stands.rows c.in-Some.slot c.slots.left c.slots.count
    at_slot r (subst (λ (w : List ℕ). record_at c.args.layout.now.states w c.in-Some.slot ≡ Some r) c.next_here-at.ensures.words is) yes

pub pass-gone-requires-clause-back : goal.pass-gone-requires-clause-back
pass-gone-requires-clause-back g c =
    let n = c.requires.stands in
    let at_slot : Sweeping c.args.layout.now (g.D.Cells.words c.slots.parts) (g.D.Parts.beside c.slots.parts) (chosen c.args.choice.now) n.machine.shown n.stands.rows (Some c.in-Some.slot) c.slots.left c.slots.count =
    subst (λ (x : Option ℕ). Sweeping c.args.layout.now (g.D.Cells.words c.slots.parts) (g.D.Parts.beside c.slots.parts) (chosen c.args.choice.now) n.machine.shown n.stands.rows x c.slots.left c.slots.count) c.in-Some.is
    (c.slots.invariant.sweeping n.machine n.stands) in
    let i = g.D.Cells.words c.slots.parts in
    let b = g.D.Parts.beside c.slots.parts in
    let o : Occupied c.args.layout.now i b c.in-Some.slot =
    comes c.args.layout.now i b (chosen c.args.choice.now) n.machine.shown n.stands.rows c.in-Some.slot c.slots.left c.slots.count at_slot in
    takes_back (g.P.Pool.lasts c.args.pool.now) g.P.Pool.taken g.P.Pool.takes c.slots.pool c.args.layout.now i b o.machine c.in-Some.slot _ _ o.at c.requires.back
    c.slots.invariant.pool c.slots.invariant.out

pub pass-gone-requires-clause-occupied : goal.pass-gone-requires-clause-occupied
pass-gone-requires-clause-occupied g c =
    let n = c.requires.stands in
    let o : Occupied c.args.layout.now (g.D.Cells.words c.slots.parts) (g.D.Parts.beside c.slots.parts) c.in-Some.slot =
    comes c.args.layout.now (g.D.Cells.words c.slots.parts) (g.D.Parts.beside c.slots.parts) (chosen c.args.choice.now) n.machine.shown n.stands.rows c.in-Some.slot c.slots.left c.slots.count
    (subst (λ (x : Option ℕ). Sweeping c.args.layout.now (g.D.Cells.words c.slots.parts) (g.D.Parts.beside c.slots.parts) (chosen c.args.choice.now) n.machine.shown n.stands.rows x c.slots.left c.slots.count) c.in-Some.is
    (c.slots.invariant.sweeping n.machine n.stands)) in
    row_kept c.args.layout.now (g.D.Cells.words c.slots.parts) _ (g.D.Parts.beside c.slots.parts) _ c.in-Some.slot c.next_here-at.ensures.words c.next_here-at.ensures.beside o

passes : (g : given.Over) (c : goal.After-pass-gone g) (m : Machine) (t : RowAt c.args.layout.now (g.D.Cells.words c.slots.parts) (g.D.Parts.beside c.slots.parts) m c.in-Some.slot)
    → StandsFor c.args.layout.now (g.D.Cells.words c.pass-gone.new.parts) (g.D.Parts.beside c.pass-gone.new.parts) m.shown (passed (chosen c.args.choice.now t.row.1.0) t.place.front t.row t.place.back)
passes g c =
    subst (λ (b : Beside). (m : Machine) (t : RowAt c.args.layout.now (g.D.Cells.words c.slots.parts) b m c.in-Some.slot)
    → StandsFor c.args.layout.now (g.D.Cells.words c.pass-gone.new.parts) (g.D.Parts.beside c.pass-gone.new.parts) m.shown (passed (chosen c.args.choice.now t.row.1.0) t.place.front t.row t.place.back)) c.next_here-at.ensures.beside
    (subst (λ (i : List ℕ). (m : Machine) (t : RowAt c.args.layout.now i (g.D.Parts.beside c.next_here-at.new.parts) m c.in-Some.slot)
    → StandsFor c.args.layout.now (g.D.Cells.words c.pass-gone.new.parts) (g.D.Parts.beside c.pass-gone.new.parts) m.shown (passed (chosen c.args.choice.now t.row.1.0) t.place.front t.row t.place.back)) c.next_here-at.ensures.words
    c.pass-gone.ensures.stands)

counts : (g : given.Over) (c : goal.After-pass-gone g) (m : Machine) (t : RowAt c.args.layout.now (g.D.Cells.words c.slots.parts) (g.D.Parts.beside c.slots.parts) m c.in-Some.slot)
    → c.pass-gone.result ≡ cond {A = ℕ} (chosen c.args.choice.now t.row.1.0) 1 0
counts g c =
    subst (λ (b : Beside). (m : Machine) (t : RowAt c.args.layout.now (g.D.Cells.words c.slots.parts) b m c.in-Some.slot) → c.pass-gone.result ≡ cond {A = ℕ} (chosen c.args.choice.now t.row.1.0) 1 0)
    c.next_here-at.ensures.beside
    (subst (λ (i : List ℕ). (m : Machine) (t : RowAt c.args.layout.now i (g.D.Parts.beside c.next_here-at.new.parts) m c.in-Some.slot) → c.pass-gone.result ≡ cond {A = ℕ} (chosen c.args.choice.now t.row.1.0) 1 0)
    c.next_here-at.ensures.words c.pass-gone.ensures.count)

pub slots-preserved : goal.slots-preserved
slots-preserved g c =
    let a = c.args.layout.now in
    let i = g.D.Cells.words c.slots.parts in
    let k = g.D.Cells.words c.pass-gone.new.parts in
    let b = g.D.Parts.beside c.slots.parts in
    let d = g.D.Parts.beside c.pass-gone.new.parts in
    let next = c.next_here-at in
    let one = c.pass-gone in
    let f = c.slots.invariant.few in
    let o = one.ensures.few in
    let t = c.slots-test.true in
    record {
      size = search rules;
      hidden = search rules;
      capacity = search rules;
      lasts = search rules;
      held = search rules;
      below = next.ensures.next;
      few = omega (arith, f, o, t);
      others = others_twice a (g.D.Parts.hidden c.args.parts.now) (g.D.Cells.words c.args.parts.now) i k (g.D.Parts.beside c.args.parts.now) b d c.slots.invariant.others
          (others_as a (g.D.Parts.hidden c.args.parts.now) (g.D.Parts.hidden next.new.parts) i (g.D.Cells.words next.new.parts) k b (g.D.Parts.beside next.new.parts) d
          (next.ensures.hidden ∙ c.slots.invariant.hidden) next.ensures.words next.ensures.beside one.ensures.others);
      started = started_more c.slots.count one.result (g.D.Cells.words c.args.parts.now) i k (g.D.Parts.beside c.args.parts.now) b d _ _ _ c.slots.invariant.started
          (started_as one.result i (g.D.Cells.words next.new.parts) k b (g.D.Parts.beside next.new.parts) d _ _ _ next.ensures.words next.ensures.beside next.ensures.begun one.ensures.started);
      sweeping = λ m r.
          sweeping_goes a i k b d (chosen c.args.choice.now) m.shown r.rows c.in-Some.slot next.result c.slots.left c.slots.count one.result
          (subst (λ (x : Option ℕ). Sweeping a i b (chosen c.args.choice.now) m.shown r.rows x c.slots.left c.slots.count) c.in-Some.is (c.slots.invariant.sweeping m r)) (one.ensures.others.turns ∙ ap (λ (x : Beside). x.held) next.ensures.beside)
          (λ s front back p st. next.ensures.answer s front back p st) (passes g c) (counts g c);
      out = one.ensures.out (c.slots.invariant.out ∙ ap (λ (w : List ℕ). length (listed_in a.states w)) (sym next.ensures.words));
      pool = λ lasts. one.ensures.pool (c.slots.invariant.lasts ∙ lasts)
          (subst (λ (w : List ℕ). PoolFits (g.P.Pool.capacity c.slots.pool) (g.P.Pool.taken c.slots.pool) (g.P.Pool.gives c.slots.pool) (g.P.Pool.takes c.slots.pool) a.states.slots (listed_in a.states w)) (sym next.ensures.words)
          (c.slots.invariant.pool lasts));
    }

pub returns-in_default-clause-swept : goal.returns-in_default-clause-swept
returns-in_default-clause-swept g c = λ m t.
    sweeping_stops c.args.layout.now (g.D.Cells.words c.slots.parts) (g.D.Parts.beside c.slots.parts) (chosen c.args.choice.now) m.shown t.rows c.slots.at c.slots.left c.slots.count c.in_default.is
    (c.slots.invariant.sweeping m t)

pub returns-clause-swept : goal.returns-clause-swept
returns-clause-swept g c = λ m t.
    let f = c.slots-test.false in
    sweeping_ends c.args.layout.now (g.D.Cells.words c.slots.parts) (g.D.Parts.beside c.slots.parts) (chosen c.args.choice.now) m.shown t.rows c.slots.at c.slots.left c.slots.count (omega (arith, f))
    (c.slots.invariant.sweeping m t)

pub returns-in_default-clause-places : goal.returns-in_default-clause-places
returns-in_default-clause-places g c =
    let n = c.requires.stands in
    let i = g.D.Cells.words c.slots.parts in
    let b = g.D.Parts.beside c.slots.parts in
    places_swept c.args.layout.now (g.D.Cells.words c.args.parts.now) i (g.D.Parts.beside c.args.parts.now) b n.machine (chosen c.args.choice.now) c.slots.count n.stands c.requires.turns
    (sweeping_stops c.args.layout.now i b (chosen c.args.choice.now) n.machine.shown n.stands.rows c.slots.at c.slots.left c.slots.count c.in_default.is (c.slots.invariant.sweeping n.machine n.stands))

pub returns-clause-places : goal.returns-clause-places
returns-clause-places g c =
    let f = c.slots-test.false in
    let n = c.requires.stands in
    let i = g.D.Cells.words c.slots.parts in
    let b = g.D.Parts.beside c.slots.parts in
    places_swept c.args.layout.now (g.D.Cells.words c.args.parts.now) i (g.D.Parts.beside c.args.parts.now) b n.machine (chosen c.args.choice.now) c.slots.count n.stands c.requires.turns
    (sweeping_ends c.args.layout.now i b (chosen c.args.choice.now) n.machine.shown n.stands.rows c.slots.at c.slots.left c.slots.count (omega (arith, f)) (c.slots.invariant.sweeping n.machine n.stands))
