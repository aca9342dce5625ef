use Rattle.std.proofs.Common.{◌≡◌, ℕ, ◌+◌, ◌*◌, List, ◌++◌, ◌∷◌, [], length-append, append-nil, subst, ap, sym, ◌∙◌, arith, rules}
use Rattle.std.proofs.lemmas.List.{drop_all}
use Rattle.xf_chain.specs.Lists.{Within}
use Rattle.xf_chain.proofs.Slots.{within_more}
use Rattle.xf_sadfind.proofs.Tries.{tries_cost}
use Rattle.xf_sadfind.proofs.Ways.{led_used, led_skipped, led_missing, led_end}
use Rattle.xf_sadfind.proofs.Meetings.{met_used, met_skipped, met_missing}
use Rattle.xf_sadfind.proofs.finder.StateFinder.lead.Goals.{in-Some, in-None+else-not-is_optional}
use Rattle.xf_sadfind.proofs.finder.StateFinder.lead.Goals as goal

pub returns-then-not-is_optional-clause-state : goal.returns-then-not-is_optional-clause-state
returns-then-not-is_optional-clause-state g c = λ image entries agrees st records.
    let best = c.wait_or_want.ensures.among.among image agrees in
    led_missing entries c.args.flow.now c.args.templates.now c.loop-place.slots.items c.loop-place.place c.loop-place.src c.loop-place.dst _
    c.used-used.result c.wait_or_want.result c.loop-place-test.true c.used-used.ensures (c.in-None.ensures.state image entries best st records)
    (sym c.is_optional.ensures ∙ c.if-not-is_optional.true)
    (c.loop-place.invariant.led image entries (c.best.ensures.among.among image best) st records)
    (c.wait_or_want.ensures.state image entries agrees st records)

pub returns-then-not-is_optional-clause-loads : goal.returns-then-not-is_optional-clause-loads
returns-then-not-is_optional-clause-loads g c = λ image entries agrees st records.
    let best = c.wait_or_want.ensures.among.among image agrees in
    let met = met_missing c.args.self.now.area image entries c.args.flow.now c.args.templates.now c.loop-place.place c.loop-place.src c.loop-place.dst _
    c.used-used.result c.loop-place-test.true c.used-used.ensures (c.in-None.ensures.state image entries best st records)
    (sym c.is_optional.ensures ∙ c.if-not-is_optional.true) in
    let before = c.loop-place.invariant.loads image entries (c.best.ensures.among.among image best) st records in
    let now = c.best.ensures.loads image entries best st in
    let last = c.wait_or_want.ensures.loads image entries agrees st in
    let less = c.loop-place-test.true in
    omega (arith, met, before, now, last, less, c.requires.few)

pub returns-then-not-is_optional-clause-most : goal.returns-then-not-is_optional-clause-most
returns-then-not-is_optional-clause-most g c =
    let before = c.loop-place.invariant.most in
    let now = c.best.ensures.most in
    let last = c.wait_or_want.ensures.most in
    let less = c.loop-place-test.true in
    let all = tries_cost (4 + 50 * c.args.self.now.area.slots) (c.loop-place.place + 1) 6 (g.L.Load.loads c.args.l.now) (g.L.Load.loads c.best.new.l)
    (omega (arith, less, c.requires.few)) (omega (arith, before, now)) in
    omega (arith, all, last)

pub loop-place-preserved : goal.loop-place-preserved
loop-place-preserved g c =
    let test = c.loop-place-test.true in
    elim c.match-best.branch [
      | in-Some w ↦
          let slot : ℕ = w.in-Some.slot in
          let slots : c.match-best.slots.items ≡ c.loop-place.slots.items ++ slot ∷ [] = ap (λ v. v.items) w.slots-is ∙ w.push.ensures.items in
          record {
            size = search rules;
            begun = search rules;
            rest = search rules;
            among = search rules;
            most = (let before = c.loop-place.invariant.most in let now = c.best.ensures.most in omega (arith, before, now));
            room = rw slots (omega (arith, c.loop-place.invariant.room, length-append c.loop-place.slots.items (slot ∷ [])));
            within = subst (λ (xs : List ℕ). Within c.args.self.now.area.slots xs) (sym slots)
                (within_more c.args.self.now.area.slots slot c.loop-place.slots.items []
                (subst (λ (xs : List ℕ). Within c.args.self.now.area.slots xs) (sym (append-nil c.loop-place.slots.items)) c.loop-place.invariant.within) w.in-Some.ensures.slot);
            loads = λ image entries agrees st records.
                let met = met_used c.args.self.now.area image entries c.args.flow.now c.args.templates.now c.loop-place.place c.loop-place.src c.loop-place.dst _
                c.used-used.result test c.used-used.ensures slot (w.in-Some.ensures.state image entries agrees st records) in
                let before = c.loop-place.invariant.loads image entries (c.best.ensures.among.among image agrees) st records in
                let now = c.best.ensures.loads image entries agrees st in
                rw (w.src-is, w.dst-is) (omega (arith, met, before, now));
            led = λ image entries agrees st records.
                rw (slots, w.src-is, w.dst-is)
                (led_used entries c.args.flow.now c.args.templates.now c.loop-place.slots.items c.loop-place.place slot c.loop-place.src c.loop-place.dst _
                c.used-used.result test c.used-used.ensures (w.in-Some.ensures.state image entries agrees st records)
                (c.loop-place.invariant.led image entries (c.best.ensures.among.among image agrees) st records));
          }
      | in-None+else-not-is_optional w ↦
          record {
            size = search rules;
            begun = search rules;
            rest = search rules;
            among = search rules;
            most = (let before = c.loop-place.invariant.most in let now = c.best.ensures.most in omega (arith, before, now));
            room = rw w.slots-is (omega (arith, c.loop-place.invariant.room));
            within = rw w.slots-is c.loop-place.invariant.within;
            loads = λ image entries agrees st records.
                let met = met_skipped c.args.self.now.area image entries c.args.flow.now c.args.templates.now c.loop-place.place c.loop-place.src c.loop-place.dst _
                c.used-used.result test c.used-used.ensures (w.in-None.ensures.state image entries agrees st records)
                (sym w.is_optional.ensures ∙ w.if-not-is_optional.false) in
                let before = c.loop-place.invariant.loads image entries (c.best.ensures.among.among image agrees) st records in
                let now = c.best.ensures.loads image entries agrees st in
                rw (w.src-is, w.dst-is) (omega (arith, met, before, now));
            led = λ image entries agrees st records.
                rw (w.slots-is, w.src-is, w.dst-is)
                (led_skipped entries c.args.flow.now c.args.templates.now c.loop-place.slots.items c.loop-place.place c.loop-place.src c.loop-place.dst _
                c.used-used.result test c.used-used.ensures (w.in-None.ensures.state image entries agrees st records)
                (sym w.is_optional.ensures ∙ w.if-not-is_optional.false)
                (c.loop-place.invariant.led image entries (c.best.ensures.among.among image agrees) st records));
          }
    ]

pub returns-clause-state : goal.returns-clause-state
returns-clause-state g c = λ image entries agrees st records.
    led_end entries c.args.flow.now c.args.templates.now c.loop-place.slots c.loop-place.place c.loop-place.src c.loop-place.dst
    (drop_all _ _ c.loop-place-test.false) (c.loop-place.invariant.led image entries agrees st records)

pub returns-clause-most : goal.returns-clause-most
returns-clause-most g c =
    let before = c.loop-place.invariant.most in
    let all = tries_cost (4 + 50 * c.args.self.now.area.slots) c.loop-place.place 6 (g.L.Load.loads c.args.l.now) (g.L.Load.loads c.loop-place.l)
    (let end = c.loop-place.auto.place-end in omega (arith, end, c.requires.few)) before in
    omega (arith, all)
