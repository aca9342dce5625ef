use Rattle.std.proofs.Common.{◌≡◌, ℕ, true, false, List, ◌∷◌, ◌++◌, Some, sym, subst}
use Rattle.std.specs.Prelude.{IfOk}
use Rattle.xf_types.specs.declared.state.Sa.{Sa}
use Rattle.xf_types.specs.Changes.{shown_after}
use Rattle.xf_types.specs.Machine.{Shown}
use Rattle.xf_types.specs.StateRules.{refreshed_record, state_updated}
use Rattle.xf_sadimage.specs.States.{StatesStand}
use Rattle.xf_sad.specs.Changes.{Comes}
use Rattle.xf_sad.specs.Replies.{ReplyIs, sid_told}
use Rattle.xf_sad.specs.Slots.{PoolFits, listed_in}
use Rattle.xf_sad.proofs.Found.{found_is, found_some}
use Rattle.xf_sad.proofs.sad.Sad.update_in.Given as given
use Rattle.xf_sad.proofs.sad.Sad.update_in.Goals as goal

pub returns-in-None-clause-reply : goal.returns-in-None-clause-reply
returns-in-None-clause-reply g c = λ s front back old at st fits.
    absurd (found_some c.args.self.now.area (g.C.Cells.words c.args.c.now) s c.args.slot front back old c.state_here.result c.state_here.ensures.answer c.in-None.is st)

pub returns-in-None-clause-used : goal.returns-in-None-clause-used
returns-in-None-clause-used g c = λ s front back old used at st.
    absurd (found_some c.args.self.now.area (g.C.Cells.words c.args.c.now) s c.args.slot front back old c.state_here.result c.state_here.ensures.answer c.in-None.is st)

-- what was found is the state in the slot
same : (g : given.Over) (c : goal.After-update_state g) (s : Shown) (front back : List (ℕ × Sa)) (old : Sa)
    → StatesStand c.args.self.now.area (g.C.Cells.words c.args.c.now) s (front ++ ((c.args.slot, old) ∷ back)) → old ≡ c.in-Some.old
same g c s front back old st =
    found_is c.args.self.now.area (g.C.Cells.words c.args.c.now) s c.args.slot front back old c.in-Some.old c.state_here.result c.state_here.ensures.answer c.in-Some.is st

there : (g : given.Over) (c : goal.After-update_state g) (s : Shown) (front back : List (ℕ × Sa)) (old : Sa)
    → StatesStand c.args.self.now.area (g.C.Cells.words c.args.c.now) s (front ++ ((c.args.slot, old) ∷ back))
    → StatesStand c.args.self.now.area (g.C.Cells.words c.state_here.new.c) s (front ++ ((c.args.slot, c.in-Some.old) ∷ back))
there g c s front back old st =
    let a = c.args.self.now.area in
    subst (λ (x : Sa). StatesStand a (g.C.Cells.words c.state_here.new.c) s (front ++ ((c.args.slot, x) ∷ back))) (same g c s front back old st)
    (subst (λ (i : List ℕ). StatesStand a i s (front ++ ((c.args.slot, old) ∷ back))) (sym c.state_here.ensures.words) st)

fits_still : (g : given.Over) (c : goal.After-update_state g) → PoolFits (g.P.Pool.capacity c.args.pool.now) (g.P.Pool.taken c.args.pool.now) (g.P.Pool.gives c.args.pool.now) (g.P.Pool.takes c.args.pool.now) c.args.self.now.area.slots (listed_in c.args.self.now.area (g.C.Cells.words c.args.c.now))
    → PoolFits (g.P.Pool.capacity c.args.pool.now) (g.P.Pool.taken c.args.pool.now) (g.P.Pool.gives c.args.pool.now) (g.P.Pool.takes c.args.pool.now) c.args.self.now.area.slots (listed_in c.args.self.now.area (g.C.Cells.words c.state_here.new.c))
fits_still g c fits =
    subst (λ (i : List ℕ). PoolFits (g.P.Pool.capacity c.args.pool.now) (g.P.Pool.taken c.args.pool.now) (g.P.Pool.gives c.args.pool.now) (g.P.Pool.takes c.args.pool.now) c.args.self.now.area.slots (listed_in c.args.self.now.area i)) (sym c.state_here.ensures.words) fits

pub returns-in-Some-clause-reply : goal.returns-in-Some-clause-reply
returns-in-Some-clause-reply g c = λ s front back old at st fits.
    subst (λ (x : Sa). ReplyIs (g.P.Pool.held c.update_state.new.pool) s (λ t. (state_updated t c.args.spec.now (Some x)).reply) (sid_told c.args.self.now.area (g.C.Cells.words c.update_state.new.c)) c.update_state.result)
    (sym (same g c s front back old st))
    (c.update_state.ensures.reply s front back at (there g c s front back old st) (fits_still g c fits))

pub returns-in-Some-clause-larval : goal.returns-in-Some-clause-larval
returns-in-Some-clause-larval g c = λ s front back old larval at st fits.
    let e = same g c s front back old st in
    subst (λ (x : Sa). IfOk c.update_state.result (λ new. Comes c.args.self.now.area (g.C.Cells.words c.update_state.new.c) s (front ++ ((c.args.slot, x) ∷ back)) (g.P.Pool.gives c.args.pool.now) (Some c.args.slot) new (state_updated s c.args.spec.now (Some x))))
    (sym e)
    (c.update_state.ensures.larval s front back (subst (λ (x : Sa). x.larval ≡ true) e larval) at (there g c s front back old st) (fits_still g c fits))

pub returns-in-Some-clause-used : goal.returns-in-Some-clause-used
returns-in-Some-clause-used g c = λ s front back old used at st.
    let e = same g c s front back old st in
    let k = c.update_state.ensures.used s front back (subst (λ (x : Sa). x.larval ≡ false) e used) at (there g c s front back old st) in (
      k.0,
      subst (λ (x : Sa). StatesStand c.args.self.now.area (g.C.Cells.words c.update_state.new.c) (shown_after s (state_updated s c.args.spec.now (Some x)).change) (front ++ ((c.args.slot, refreshed_record c.args.spec.now x) ∷ back)))
          (sym e) k.1,
    )

pub returns-in-Some-clause-pool : goal.returns-in-Some-clause-pool
returns-in-Some-clause-pool g c = λ s front back old lasts at st fits.
    c.update_state.ensures.pool s front back lasts at (there g c s front back old st) (fits_still g c fits)
