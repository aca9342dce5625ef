use Rattle.std.proofs.Common.{ℕ, List, ◌∷◌, ◌++◌, sym, ◌∙◌, subst}
use Rattle.xf_types.specs.declared.state.Sa.{Sa}
use Rattle.xf_types.specs.Machine.{Shown}
use Rattle.xf_index.specs.Indexes.{slots_in, records_in}
use Rattle.xf_index.proofs.Entries.{slots_append}
use Rattle.xf_image.specs.Frames.{Frame}
use Rattle.xf_sadidx.specs.Layout.{end_of}
use Rattle.xf_sadimage.specs.States.{StatesStand}
use Rattle.xf_sadlist.specs.Listed.{with_states}
use Rattle.xf_sad.specs.Slots.{PoolFits, listed_in}
use Rattle.xf_sad.proofs.Pools.{pool_removed}
use Rattle.xf_sad.proofs.Found.{listed_is, listed_between, misses_between}
use Rattle.xf_sad.proofs.sad.Sad.remove.Given as given
use Rattle.xf_sad.proofs.sad.Sad.remove.Goals as goal

pub returns-clause-frame : goal.returns-clause-frame
returns-clause-frame g c =
    let a = c.args.self.now.area in
    subst (λ (i : List ℕ). Frame a.base (end_of a) i (g.C.Cells.words c.leave.new.c)) c.begin.ensures.words c.leave.ensures.frame

left : (g : given.Over) (c : goal.After-give g) (shown : Shown) (front back : List (ℕ × Sa))
    → StatesStand c.args.self.now.area (g.C.Cells.words c.args.c.now) shown (front ++ ((c.args.slot, c.args.s.now) ∷ back))
    → StatesStand c.args.self.now.area (g.C.Cells.words c.leave.new.c) (with_states shown (records_in (front ++ back))) (front ++ back)
left g c shown front back st =
    c.leave.ensures.stands shown front back
    (subst (λ (i : List ℕ). StatesStand c.args.self.now.area i shown (front ++ ((c.args.slot, c.args.s.now) ∷ back))) (sym c.begin.ensures.words) st)

pub returns-clause-stands : goal.returns-clause-stands
returns-clause-stands g c = λ shown front back st. left g c shown front back st

pub returns-clause-pool : goal.returns-clause-pool
returns-clause-pool g c = λ shown front back lasts st fits.
    let a = c.args.self.now.area in
    let old = listed_between a (g.C.Cells.words c.args.c.now) shown front back c.args.slot c.args.s.now st in
    let new = listed_is a (g.C.Cells.words c.leave.new.c) _ (front ++ back) (left g c shown front back st) ∙ slots_append front back in
    subst (λ (n : ℕ). PoolFits n (g.P.Pool.taken c.give.new.self) (g.P.Pool.gives c.give.new.self) (g.P.Pool.takes c.give.new.self) a.slots (listed_in a (g.C.Cells.words c.leave.new.c)))
    (sym c.give.ensures.capacity)
    (subst (λ (xs : List ℕ). PoolFits (g.P.Pool.capacity c.args.pool.now) (g.P.Pool.taken c.give.new.self) (g.P.Pool.gives c.give.new.self) (g.P.Pool.takes c.give.new.self) a.slots xs) (sym new)
    (pool_removed _ _ _ _ c.args.slot _ _ _ _ _ (slots_in front) (slots_in back)
    (subst (λ (xs : List ℕ). PoolFits (g.P.Pool.capacity c.args.pool.now) (g.P.Pool.taken c.args.pool.now) (g.P.Pool.gives c.args.pool.now) (g.P.Pool.takes c.args.pool.now) a.slots xs) old fits)
    (record { less = c.give.ensures.taken; gives_ = c.give.ensures.gives; takes_ = c.give.ensures.takes }) lasts c.requires.slot
    (misses_between a (g.C.Cells.words c.args.c.now) shown front back c.args.slot c.args.s.now st)))
