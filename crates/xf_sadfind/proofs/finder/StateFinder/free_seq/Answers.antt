use Rattle.std.proofs.Common.{ℕ, ◌+◌, ◌*◌, ◌≤◌, List, length, ap, ◌∙◌, arith}
use Rattle.std.specs.List.{list_any}
use Rattle.xf_types.specs.declared.state.Sa.{Sa}
use Rattle.xf_types.specs.Counters.{first_free}
use Rattle.xf_types.specs.FlowRules.{last_seq}
use Rattle.xf_index.specs.Indexes.{records_in}
use Rattle.xf_sadidx.specs.Queries.{has_seq}
use Rattle.xf_resize.specs.Rooms.{StatesChained}
use Rattle.xf_sadimage.specs.States.{StatesStand}
use Rattle.xf_sadfind.proofs.Tries.{tries_cost}
use Rattle.xf_sadfind.proofs.finder.StateFinder.free_seq.Goals as goal

pub returns-clause-state : goal.returns-clause-state
returns-clause-state g c = λ image s entries agrees range st.
    let counted = c.seq_from.ensures.among.among image agrees in
    let begun = c.count-tries.ensures.among.among image counted in
    c.seq_from.ensures.state image entries agrees (StatesChained.indexed (StatesStand.chained st)) (StatesChained.records (StatesStand.chained st))
    ∙ ap (λ (k : ℕ). first_free (λ seq. list_any (has_seq seq) (records_in entries)) last_seq k c.count-tries.result) (c.next_seq-from.ensures.state image s entries begun range st)
    ∙ ap (λ (n : ℕ). first_free (λ seq. list_any (has_seq seq) (records_in entries)) last_seq s.next_seq n) (c.count-tries.ensures.state image s entries counted st)
    ∙ ap (λ (rs : List Sa). first_free (λ seq. list_any (has_seq seq) rs) last_seq s.next_seq (length s.states)) (StatesStand.listed st)

pub returns-clause-most : goal.returns-clause-most
returns-clause-most g c =
    let slots : ℕ = c.args.self.now.area.slots in
    let from = c.next_seq-from.ensures.loads in
    let count = c.count-tries.ensures.loads in
    let all : g.L.Load.loads c.seq_from.new.l ≤ g.L.Load.loads c.count-tries.new.l + (4 + 50 * slots) * slots =
    tries_cost (4 + 50 * slots) c.count-tries.result slots (g.L.Load.loads c.count-tries.new.l) (g.L.Load.loads c.seq_from.new.l) c.count-tries.ensures.most c.seq_from.ensures.most in
    omega (arith, from, count, all)
