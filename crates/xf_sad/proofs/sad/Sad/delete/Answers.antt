use Rattle.std.proofs.Common.{◌≡◌, ℕ, List, ◌∷◌, ◌++◌, sym, subst}
use Rattle.xf_types.specs.declared.state.Sa.{Sa}
use Rattle.xf_types.specs.Machine.{Shown}
use Rattle.xf_sadimage.specs.States.{StatesStand}
use Rattle.xf_sad.specs.Slots.{PoolFits, listed_in}
use Rattle.xf_sad.proofs.Found.{found_is, found_some}
use Rattle.xf_sad.proofs.sad.Sad.delete.Given as given
use Rattle.xf_sad.proofs.sad.Sad.delete.Goals as goal

-- what was found stands there, in the words that were loaded
there : (g : given.Over) (c : goal.After-remove g) (s : Shown) (front back : List (ℕ × Sa)) (r : Sa)
    → StatesStand c.args.self.now.area (g.C.Cells.words c.args.c.now) s (front ++ ((c.args.slot, r) ∷ back))
    → StatesStand c.args.self.now.area (g.C.Cells.words c.state_here.new.c) s (front ++ ((c.args.slot, c.in-Some.s) ∷ back))
there g c s front back r st =
    let a = c.args.self.now.area in
    let e : r ≡ c.in-Some.s = found_is a (g.C.Cells.words c.args.c.now) s c.args.slot front back r c.in-Some.s c.state_here.result c.state_here.ensures.answer c.in-Some.is st in
    subst (λ (x : Sa). StatesStand a (g.C.Cells.words c.state_here.new.c) s (front ++ ((c.args.slot, x) ∷ back))) e
    (subst (λ (i : List ℕ). StatesStand a i s (front ++ ((c.args.slot, r) ∷ back))) (sym c.state_here.ensures.words) st)

pub returns-in-Some-clause-stands : goal.returns-in-Some-clause-stands
returns-in-Some-clause-stands g c = λ s front back r st. c.remove.ensures.stands s front back (there g c s front back r st)

pub returns-in-Some-clause-pool : goal.returns-in-Some-clause-pool
returns-in-Some-clause-pool g c = λ s front back r lasts st fits.
    let a = c.args.self.now.area in
    c.remove.ensures.pool s front back lasts (there g c s front back r st)
    (subst (λ (i : List ℕ). PoolFits (g.P.Pool.capacity c.args.pool.now) (g.P.Pool.taken c.args.pool.now) (g.P.Pool.gives c.args.pool.now) (g.P.Pool.takes c.args.pool.now) a.slots (listed_in a i)) (sym c.state_here.ensures.words) fits)

pub returns-in_default-clause-begun : goal.returns-in_default-clause-begun
returns-in_default-clause-begun g c = λ s front back r st.
    absurd (found_some c.args.self.now.area (g.C.Cells.words c.args.c.now) s c.args.slot front back r c.state_here.result c.state_here.ensures.answer c.in_default.is st)

pub returns-in_default-clause-returned : goal.returns-in_default-clause-returned
returns-in_default-clause-returned g c = λ s front back r st.
    absurd (found_some c.args.self.now.area (g.C.Cells.words c.args.c.now) s c.args.slot front back r c.state_here.result c.state_here.ensures.answer c.in_default.is st)

pub returns-in_default-clause-stands : goal.returns-in_default-clause-stands
returns-in_default-clause-stands g c = λ s front back r st.
    absurd (found_some c.args.self.now.area (g.C.Cells.words c.args.c.now) s c.args.slot front back r c.state_here.result c.state_here.ensures.answer c.in_default.is st)

pub returns-in_default-clause-pool : goal.returns-in_default-clause-pool
returns-in_default-clause-pool g c = λ s front back r lasts st fits.
    absurd (found_some c.args.self.now.area (g.C.Cells.words c.args.c.now) s c.args.slot front back r c.state_here.result c.state_here.ensures.answer c.in_default.is st)

pub returns-in_default-clause-out : goal.returns-in_default-clause-out
returns-in_default-clause-out g c = λ s front back r st.
    absurd (found_some c.args.self.now.area (g.C.Cells.words c.args.c.now) s c.args.slot front back r c.state_here.result c.state_here.ensures.answer c.in_default.is st)
