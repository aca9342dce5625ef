use Rattle.std.proofs.Common.{ℕ, ◌+◌, ◌-◌, ◌*◌, ◌≤◌, min, not, List, find, length, ap, ◌∙◌, arith}
use Rattle.xf_types.specs.declared.state.Sa.{Sa}
use Rattle.xf_types.specs.Counters.{upwards}
use Rattle.xf_types.specs.StateRules.{is_spi_taken}
use Rattle.xf_index.specs.Indexes.{records_in}
use Rattle.xf_resize.specs.Rooms.{StatesChained}
use Rattle.xf_sadimage.specs.States.{StatesStand}
use Rattle.xf_sadfind.proofs.Tries.{tries_cost}
use Rattle.xf_sadfind.proofs.finder.StateFinder.free_spi.Goals as goal

pub returns-clause-state : goal.returns-clause-state
returns-clause-state g c = λ image s entries agrees st.
    let spec = c.args.spec.now in
    let counted = c.spi_among.ensures.among.among image agrees in
    c.spi_among.ensures.state image entries agrees (StatesChained.indexed (StatesStand.chained st)) (StatesChained.records (StatesStand.chained st))
    ∙ ap (λ (n : ℕ). find (λ spi. not (is_spi_taken spec (records_in entries) spi)) (upwards spec.min n))
    (c.tries_for-tries.ensures.is ∙ ap (λ (k : ℕ). min (spec.max + 1 - spec.min) (k + 1)) (c.count-count.ensures.state image s entries counted st))
    ∙ ap (λ (rs : List Sa). find (λ spi. not (is_spi_taken spec rs spi)) (upwards spec.min (min (spec.max + 1 - spec.min) (length s.states + 1)))) (StatesStand.listed st)

pub returns-clause-most : goal.returns-clause-most
returns-clause-most g c =
    let slots : ℕ = c.args.self.now.area.slots in
    let count = c.count-count.ensures.loads in
    let most = c.count-count.ensures.most in
    let few = c.tries_for-tries.ensures.few in
    let all : g.L.Load.loads c.spi_among.new.l ≤ g.L.Load.loads c.count-count.new.l + (4 + 50 * slots) * (slots + 1) =
    tries_cost (4 + 50 * slots) c.tries_for-tries.result (slots + 1) (g.L.Load.loads c.count-count.new.l) (g.L.Load.loads c.spi_among.new.l) (omega (arith, most, few)) c.spi_among.ensures.most in
    omega (arith, count, all)
