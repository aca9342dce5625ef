use Rattle.std.proofs.Common.{ℕ, Option, refl, sym, subst}
use Rattle.xf_cells.specs.Pools.{Kept}
use Rattle.xf_sad.specs.Slots.{Back, BackIf, Where}
use Rattle.xf_sad.proofs.pool.give_back.Goals as goal

pub returns-in-None-clause-back : goal.returns-in-None-clause-back
returns-in-None-clause-back g c =
    let pool = c.args.pool.now in
    let kept : Kept (g.P.Pool.taken pool) (g.P.Pool.taken pool) (g.P.Pool.spent pool) (g.P.Pool.spent pool) (g.P.Pool.gives pool) (g.P.Pool.gives pool) (g.P.Pool.takes pool) (g.P.Pool.takes pool) =
    record { count = refl; spent = refl; fewer = λ x h. h; more = λ x h. h; still = λ x h. h; less = λ x h. h } in
    subst (λ (o : Option ℕ). BackIf o (g.P.Pool.lasts pool) (g.P.Pool.taken pool) (g.P.Pool.taken pool) (g.P.Pool.spent pool) (g.P.Pool.spent pool) (g.P.Pool.gives pool) (g.P.Pool.gives pool) (g.P.Pool.takes pool) (g.P.Pool.takes pool))
    (sym c.in-None.is) kept

pub returns-in-Some-clause-back : goal.returns-in-Some-clause-back
returns-in-Some-clause-back g c =
    let old = c.args.pool.now in
    let new = c.give.new.self in
    let back : Back c.in-Some.slot (g.P.Pool.lasts old) (g.P.Pool.taken old) (g.P.Pool.taken new) (g.P.Pool.gives old) (g.P.Pool.gives new) (g.P.Pool.takes old) (g.P.Pool.takes new) =
    record { less = c.give.ensures.taken; gives_ = c.give.ensures.gives; takes_ = c.give.ensures.takes } in
    subst (λ (o : Option ℕ). BackIf o (g.P.Pool.lasts old) (g.P.Pool.taken old) (g.P.Pool.taken new) (g.P.Pool.spent old) (g.P.Pool.spent new) (g.P.Pool.gives old) (g.P.Pool.gives new) (g.P.Pool.takes old) (g.P.Pool.takes new))
    (sym c.in-Some.is) back

pub returns-in-None-clause-returned : goal.returns-in-None-clause-returned
returns-in-None-clause-returned g c = subst (λ (o : Option ℕ). Where (g.P.Pool.returned c.args.pool.now) o) (sym c.in-None.is) tt

pub returns-in-Some-clause-returned : goal.returns-in-Some-clause-returned
returns-in-Some-clause-returned g c = subst (λ (o : Option ℕ). Where (g.P.Pool.returned c.give.new.self) o) (sym c.in-Some.is) c.give.ensures.returned

pub give-requires : goal.give-requires
give-requires g c = subst (λ (o : Option ℕ). Where (g.P.Pool.takes c.args.pool.now) o) c.in-Some.is c.requires
