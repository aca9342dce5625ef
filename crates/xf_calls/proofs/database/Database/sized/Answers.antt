use Rattle.std.proofs.Common.{ℕ, ◌+◌, refl, sym, subst, arith}
use Rattle.xf_rows.specs.Layouts.{Fits}
use Rattle.xf_calls.proofs.Begun.{new_told, new_whole}
use Rattle.xf_calls.proofs.database.Database.sized.Goals as goal

pub new-requires : goal.new-requires
new-requires c = let low = c.new-layout.ensures.clock in c.new-layout.ensures.fits (c.new-layout.result.clock + 1) (omega arith) (omega (arith, low))

pub invariant_of-result : goal.invariant_of-result
invariant_of-result c =
    let low = c.new-layout.ensures.clock in
    new_whole c.new-layout.result _ _ _ _ _ _ _ _ _ _ c.args.policies c.args.states
    (subst (λ (size : ℕ). Fits c.new-layout.result size) (sym c.in-Ok.ensures.size)
    (c.new-layout.ensures.fits (c.new-layout.result.clock + 1) (omega arith) (omega (arith, low))))
    (λ slot. refl) c.new-layout.ensures.policies c.new-layout.ensures.states c.in-Ok.ensures.stands c.in-Ok-new.ensures.full c.in-Ok-new-2.ensures.full

pub returns : goal.returns
returns c = new_told c.new-layout.result _ _ c.args.policies c.args.states (λ slot. refl) c.new-layout.ensures.policies c.new-layout.ensures.states c.in-Ok.ensures.stands
