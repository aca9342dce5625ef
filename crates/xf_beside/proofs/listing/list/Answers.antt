use Rattle.std.proofs.Common.{◌≡◌, ℕ, false, List, [], ◌∷◌, ◌++◌, Option, filter, Ok, Err, ap, sym, ◌∙◌, subst, arith}
use Rattle.std.specs.Prelude.{OnOk, is_err}
use Rattle.std.specs.declared.result.Result.{Result}
use Rattle.xf_types.specs.declared.call.Reply.TheVariants as reply
use Rattle.xf_types.specs.declared.policy.Policy.{Policy}
use Rattle.xf_types.specs.PolicyList.{policy_meets}
use Rattle.xf_inexact.specs.Whole.{SpdStands}
use Rattle.xf_beside.specs.Passing.{Asking}
use Rattle.xf_beside.proofs.Asked.{asking_begins, asking_goes, asking_ends, asking_stops}
use Rattle.xf_beside.proofs.listing.list.Goals as goal

pub slots-init : goal.slots-init
slots-init g c =
    let a = c.args.spd.now.area in
    let first = c.first_slot-at in
    let all = c.count-left in
    record {
      size = all.ensures.size ∙ first.ensures.size;
      words = all.ensures.words ∙ first.ensures.words;
      below = first.ensures.below;
      asking = λ s es room st.
          subst (λ (ps : List Policy). Asking (policy_meets c.args.wanted.now) es first.result all.result ps) (sym c.new-found.ensures.items)
          (asking_begins a (g.C.Cells.words c.args.c.now) (policy_meets c.args.wanted.now) s es first.result all.result st (first.ensures.answer s es st)
          (all.ensures.answer s es room (subst (λ (i : List ℕ). SpdStands a i s es) (sym first.ensures.words) st)));
    }

on_ok : {T E : Type 0} (r : Result T E) (P : Type 0) → is_err r ≡ false → OnOk r P → P
on_ok (Ok x) P e h = h
on_ok (Err x) P e h = absurd (cc)

pub slots-preserved : goal.slots-preserved
slots-preserved g c =
    let a = c.args.spd.now.area in
    let next = c.next_slot-at in
    let kept = c.keep_in in
    record {
      size = kept.ensures.size ∙ (next.ensures.size ∙ c.slots.invariant.size);
      words = kept.ensures.words ∙ (next.ensures.words ∙ c.slots.invariant.words);
      below = next.ensures.below;
      asking = λ s es room st.
          let here : SpdStands a (g.C.Cells.words c.slots.c) s es = subst (λ (i : List ℕ). SpdStands a i s es) (sym c.slots.invariant.words) st in
          let there : SpdStands a (g.C.Cells.words next.new.c) s es = subst (λ (i : List ℕ). SpdStands a i s es) (sym next.ensures.words) here in
          asking_goes (policy_meets c.args.wanted.now) es c.in-Some.slot next.result c.slots.left c.slots.found.items kept.new.found.items
          (subst (λ (o : Option ℕ). Asking (policy_meets c.args.wanted.now) es o c.slots.left c.slots.found.items) c.in-Some.is (c.slots.invariant.asking s es room st))
          (λ front back p e. next.ensures.answer s front back p (subst (λ (l : List (ℕ × Policy)). SpdStands a (g.C.Cells.words c.slots.c) s l) e here))
          (λ front back p e. on_ok kept.result (kept.new.found.items ≡ c.slots.found.items ++ filter (policy_meets c.args.wanted.now) (p ∷ [])) (sym c.is_err.ensures.value ∙ c.if-is_err.false)
          (kept.ensures.keeps s front back p (subst (λ (l : List (ℕ × Policy)). SpdStands a (g.C.Cells.words next.new.c) s l) e there)));
    }

pub returns-clause-answer : goal.returns-clause-answer
returns-clause-answer g c = λ s es room st some.
    let f = c.slots-test.false in
    ap (λ (ps : List Policy). reply.PolicyList ps)
    (c.new-2.ensures ∙ asking_ends c.args.spd.now.area (g.C.Cells.words c.args.c.now) (policy_meets c.args.wanted.now) s es c.slots.at c.slots.left c.slots.found.items (omega (arith, f)) st
    (c.slots.invariant.asking s es room st))

pub returns-in_default-clause-answer : goal.returns-in_default-clause-answer
returns-in_default-clause-answer g c = λ s es room st some.
    ap (λ (ps : List Policy). reply.PolicyList ps)
    (c.new.ensures ∙ asking_stops c.args.spd.now.area (g.C.Cells.words c.args.c.now) (policy_meets c.args.wanted.now) s es c.slots.at c.slots.left c.slots.found.items c.in_default.is st
    (c.slots.invariant.asking s es room st))
