use Rattle.std.proofs.Common.{◌≡◌, ℕ, List, Option, Some, [], ◌∷◌, ◌++◌, Bool, false, get_or, set, ap, ◌∙◌, sym, arith}
use mathlib.Core.Option.{some, some-injective}
use mathlib.Core.Logic.{dite}
use native.Mathlib.Decide.{ℕ_discrete}
use lib.ListN.{get_elem?}
use Rattle.std.specs.Mem.Slots.{slots_items, slots_filled}
use Rattle.atomic_table.proofs.Lists.{at_longer, at_last}
use Rattle.xf_table.proofs.Rows.{emptied_here, emptied_else, same_some}
use Rattle.xf_table.proofs.closing.taken.Goals as goal

pub unreachable-requires : goal.unreachable-requires
unreachable-requires g c =
    let t = c.requires.there c.loop-i.i c.loop-i-test.true in
    let same = sym c.take.ensures.value ∙ (ap (λ (l : List (Option g.row.T.Denot)). get_elem? l c.loop-i.i) c.loop-i.invariant.same ∙ t.1) in
    c.in_default.not-Some t.0 (some-injective _ _ same)

pub loop-i-preserved : goal.loop-i-preserved
loop-i-preserved g c =
    let l = c.loop-i.invariant in
    let i = c.loop-i.i in
    let ok = c.loop-i.values.ok in
    let test = c.loop-i-test.true in
    let old = slots_filled c.loop-i.closed.slots in
    let filled_is : slots_filled c.take.new.self.slots ≡ set old i false = c.take.ensures.others.1 in
    let at_filled : (k : ℕ) → get_or (slots_filled c.take.new.self.slots) k false ≡ get_or (set old i false) k false = λ k. ap (λ (fs : List Bool). get_or fs k false) filled_is in
    let len = c.push_reserved.ensures.len in
    let capacity = c.push_reserved.ensures.capacity in
    let size = l.size in
    let taken : get_elem? (slots_items c.args.closed.now.slots) i ≡ some (Some c.in-Some.value) =
    sym (ap (λ (xs : List (Option g.row.T.Denot)). get_elem? xs i) l.same) ∙ (c.take.ensures.value ∙ ap some c.in-Some.is) in
    let at_items : (k : ℕ) → get_elem? c.push_reserved.new.self.items k ≡ get_elem? (c.loop-i.values.items ++ c.in-Some.value ∷ []) k = λ k. ap (λ (xs : List g.row.T.Denot). get_elem? xs k) c.push_reserved.ensures.items in
    record {
      filled = λ k high low.
          let count = c.take.ensures.others.2 in
          at_filled k ∙ (emptied_else old i k (λ e. absurd (omega arith)) ∙ l.filled k (omega arith) (omega arith));
      emptied = λ k low. at_filled k ∙ dite (ℕ_discrete k i)
          (λ same. ap (λ n. get_or (set old i false) n false) same ∙ emptied_here old i)
          (λ other. emptied_else old i k other ∙ l.emptied k (omega arith));
      same = c.take.ensures.others.0 ∙ l.same;
      count = c.take.ensures.others.2 ∙ l.count;
      size = (omega arith, omega arith, omega arith);
      values = λ k x low at. at_items k ∙ dite (ℕ_discrete k i)
          (λ same.
          let is : c.in-Some.value ≡ x = same_some _ _ (some-injective _ _ (sym taken ∙ (ap (get_elem? (slots_items c.args.closed.now.slots)) (sym same) ∙ at))) in
          at_last c.loop-i.values.items c.in-Some.value k (omega arith) ∙ ap some is)
          (λ other. at_longer c.loop-i.values.items (c.in-Some.value ∷ []) k x (l.values k x (omega arith) at));
    }
