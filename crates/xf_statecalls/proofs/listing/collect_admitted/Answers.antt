use Rattle.std.proofs.Common.{ℕ, List, Option, sym, subst, rules, arith}
use Rattle.xf_types.specs.declared.state.Sa.{Sa}
use Rattle.xf_types.specs.StateList.{state_meets}
use Rattle.xf_statecalls.specs.Sweeps.{Reading}
use Rattle.xf_statecalls.proofs.Picked.{reading_begins, reading_goes, reading_ends, reading_stops}
use Rattle.xf_statecalls.proofs.listing.collect_admitted.Goals as goal

pub slots-init : goal.slots-init
slots-init g c = record {
  size = c.first_slot-at.ensures.size;
  begun = c.first_slot-at.ensures.begun;
  rest = c.first_slot-at.ensures.rest;
  among = c.first_slot-at.ensures.among;
  below = c.first_slot-at.ensures.below;
  reading = λ image s entries agrees st.
      subst (λ (ps : List Sa). Reading (state_meets c.args.wanted.now) entries c.first_slot-at.result c.args.layout.now.states.slots ps) (sym c.requires.empty)
      (reading_begins c.args.layout.now.states image s (state_meets c.args.wanted.now) entries c.first_slot-at.result st (c.first_slot-at.ensures.state image s entries agrees st));
}

pub slots-preserved : goal.slots-preserved
slots-preserved g c = record {
  size = search rules;
  begun = search rules;
  rest = search rules;
  among = record { among = λ image h. c.slots.invariant.among.among image (c.state-state.ensures.among.among image (c.next_slot-at.ensures.among.among image h)) };
  below = c.next_slot-at.ensures.below;
  reading = λ image s entries agrees st.
      let before = c.next_slot-at.ensures.among.among image agrees in
      reading_goes c.args.layout.now.states image s (state_meets c.args.wanted.now) entries c.in-Some.slot c.next_slot-at.result c.slots.left c.slots.admitted.items c.push_admitted.new.admitted.items
      c.state-state.result st
      (subst (λ (x : Option ℕ). Reading (state_meets c.args.wanted.now) entries x c.slots.left c.slots.admitted.items) c.in-Some.is
      (c.slots.invariant.reading image s entries (c.state-state.ensures.among.among image before) st))
      (λ fs gs r here. c.next_slot-at.ensures.state image s fs gs r agrees here)
      (λ fs gs r here. c.state-state.ensures.state image s fs gs r before here)
      c.in_ok-push_admitted.ensures;
}

pub returns-in_default-clause-answer : goal.returns-in_default-clause-answer
returns-in_default-clause-answer g c = λ image s entries agrees st.
    reading_stops c.args.layout.now.states image s (state_meets c.args.wanted.now) entries c.slots.at c.slots.left c.slots.admitted.items st c.in_default.is
    (c.slots.invariant.reading image s entries agrees st)

pub returns-clause-answer : goal.returns-clause-answer
returns-clause-answer g c = λ image s entries agrees st.
    let f = c.slots-test.false in
    reading_ends c.args.layout.now.states image s (state_meets c.args.wanted.now) entries c.slots.at c.slots.left c.slots.admitted.items st (omega (arith, f))
    (c.slots.invariant.reading image s entries agrees st)
