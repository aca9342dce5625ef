use Rattle.std.proofs.Common.{◌≡◌, ℕ, ◌+◌, ◌≤◌, Bool, List, [], ◌∷◌, ◌++◌, Option, Some, refl, ap, sym, ◌∙◌, subst, rules, arith}
use Rattle.xf_types.specs.declared.state.Sa.{Sa}
use Rattle.xf_types.specs.Machine.{Shown}
use Rattle.xf_types.specs.StateList.{state_meets}
use Rattle.xf_statecalls.specs.Sweeps.{Counting}
use Rattle.xf_statecalls.proofs.Picked.{counting_begins, counting_goes, counting_ends, counting_stops}
use Rattle.xf_statecalls.proofs.listing.count_admitted.Goals as goal

pub slots-init : goal.slots-init
slots-init g c = record {
  size = c.first_slot-at.ensures.size;
  begun = c.first_slot-at.ensures.begun;
  rest = c.first_slot-at.ensures.rest;
  among = c.first_slot-at.ensures.among;
  few = omega arith;
  below = c.first_slot-at.ensures.below;
  counting = λ image s entries agrees st.
      counting_begins c.args.layout.now.states image s (state_meets c.args.wanted.now) entries c.first_slot-at.result st (c.first_slot-at.ensures.state image s entries agrees st);
}

pub slots-preserved : goal.slots-preserved
slots-preserved g c =
    let f = c.slots.invariant.few in
    let o = c.counted-one.ensures.few in
    let t = c.slots-test.true in
    record {
      size = search rules;
      begun = search rules;
      rest = search rules;
      among = record { among = λ image h. c.slots.invariant.among.among image (c.state-state.ensures.among.among image (c.next_slot-at.ensures.among.among image h)) };
      few = omega (arith, f, o, t);
      below = c.next_slot-at.ensures.below;
      counting = λ image s entries agrees st.
          let before = c.next_slot-at.ensures.among.among image agrees in
          counting_goes c.args.layout.now.states image s (state_meets c.args.wanted.now) entries c.in-Some.slot c.next_slot-at.result c.slots.left c.slots.count c.counted-one.result c.state-state.result st
          (subst (λ (x : Option ℕ). Counting (state_meets c.args.wanted.now) entries x c.slots.left c.slots.count) c.in-Some.is
          (c.slots.invariant.counting image s entries (c.state-state.ensures.among.among image before) st))
          (λ fs gs r here. c.next_slot-at.ensures.state image s fs gs r agrees here)
          (λ fs gs r here. c.state-state.ensures.state image s fs gs r before here)
          c.counted-one.ensures.is;
    }

pub returns-in_default-clause-answer : goal.returns-in_default-clause-answer
returns-in_default-clause-answer g c = λ image s entries agrees st.
    counting_stops c.args.layout.now.states image s (state_meets c.args.wanted.now) entries c.slots.at c.slots.left c.slots.count st c.in_default.is
    (c.slots.invariant.counting image s entries agrees st)

pub returns-clause-answer : goal.returns-clause-answer
returns-clause-answer g c = λ image s entries agrees st.
    let f = c.slots-test.false in
    counting_ends c.args.layout.now.states image s (state_meets c.args.wanted.now) entries c.slots.at c.slots.left c.slots.count st (omega (arith, f))
    (c.slots.invariant.counting image s entries agrees st)
