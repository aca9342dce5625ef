use Rattle.std.proofs.Common.{◌≡◌, ℕ, List, refl, ap, ◌∙◌, subst}
use Rattle.xf_values.specs.declared.state_value.StateValue.{StateValue}
use Rattle.xf_live.specs.Passes.{PassView}
use Rattle.xf_desk.specs.Pools.{IsPoolOf}
use Rattle.xf_desk.proofs.asking.ask_slots.Goals as goal

pub returns-clause-pool : goal.returns-clause-pool
returns-clause-pool g c =
    let now : List ℕ = c.free_slot-pool.new.words.pass.view.image.words in
    let same : now ≡ c.args.pass.view.image.words =
    c.free_slot-pool.ensures.among.among now refl ∙ ap (λ (p : PassView StateValue). p.view.image.words) c.lend-desk.ensures.pass in
    subst (λ (i : List ℕ). IsPoolOf c.args.first c.args.count i c.free_slot-pool.result) same (c.free_slot-pool.ensures.pool now refl)
