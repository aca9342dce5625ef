use Rattle.std.proofs.Common.{ℕ, ◌≤◌, List, ◌∷◌, ◌++◌, length, sym, ◌∙◌, subst, arith}
use Rattle.xf_types.specs.declared.state.Sa.{Sa}
use Rattle.xf_types.specs.Machine.{Shown}
use Rattle.xf_index.specs.Indexes.{records_in}
use Rattle.xf_image.specs.Frames.{Frame}
use Rattle.xf_sadidx.specs.Layout.{end_of}
use Rattle.xf_sadimage.specs.States.{StatesStand}
use Rattle.xf_sadlist.specs.Listed.{with_states}
use Rattle.xf_sad.specs.Slots.{PoolFits}
use Rattle.xf_rows.specs.Layouts.{Fits}
use Rattle.xf_policies.proofs.Others.{others_of, others_hidden, others_twice}
use Rattle.xf_ticking.proofs.Ages.{out_less}
use Rattle.xf_ticking.proofs.Places.{hidden_low, states_beside, same_states}
use Rattle.xf_ticking.proofs.settling.remove.Given as given
use Rattle.xf_ticking.proofs.settling.remove.Goals as goal

-- once the state left, hidden words alone change
frees : (g : given.Over) (c : goal.After-state_freed g) → Frame 0 (g.D.Parts.hidden c.args.parts.now) (g.D.Cells.words c.delete.new.c) (g.D.Cells.words c.state_freed.new.self)
frees g c =
    subst (λ (n : ℕ). Frame 0 n (g.D.Cells.words c.delete.new.c) (g.D.Cells.words c.state_freed.new.self)) (g.met.D.Parts.kept_hidden c.delete.new.c c.args.parts.now c.delete.ensures.rest)
    c.state_freed.ensures.frame

fits : (g : given.Over) (c : goal.After-state_freed g) → Fits c.args.layout.now (length (g.D.Cells.words c.delete.new.c))
fits g c = subst (λ (n : ℕ). Fits c.args.layout.now n) (sym (c.delete.ensures.frame.size ∙ g.met.D.Cells.all c.args.parts.now)) c.requires.fits

leaves : (g : given.Over) (c : goal.After-state_freed g) (s : Shown) (front back : List (ℕ × Sa)) (r : Sa)
    → StatesStand c.args.layout.now.states (g.D.Cells.words c.args.parts.now) s (front ++ ((c.args.slot, r) ∷ back))
    → StatesStand c.args.layout.now.states (g.D.Cells.words c.state_freed.new.self) (with_states s (records_in (front ++ back))) (front ++ back)
leaves g c s front back r st =
    states_beside c.args.layout.now (g.D.Cells.words c.delete.new.c) (g.D.Cells.words c.state_freed.new.self) (g.D.Parts.hidden c.args.parts.now)
    (with_states s (records_in (front ++ back))) (front ++ back) (fits g c) c.requires.behind (frees g c) (c.delete.ensures.stands s front back r st)

pub returns-clause-others : goal.returns-clause-others
returns-clause-others g c =
    let a = c.args.layout.now.states in
    let hidden : ℕ = g.D.Parts.hidden c.args.parts.now in
    let low : hidden ≤ a.base = hidden_low c.args.layout.now (g.D.Load.size c.args.parts.now) hidden c.requires.fits c.requires.behind in
    others_twice hidden a.base (end_of a) (g.D.Cells.words c.args.parts.now) (g.D.Cells.words c.delete.new.c) (g.D.Cells.words c.state_freed.new.self)
    (others_of hidden a.base (end_of a) (g.D.Cells.words c.args.parts.now) (g.D.Cells.words c.delete.new.c) c.delete.ensures.frame)
    (others_hidden hidden a.base (end_of a) (g.D.Cells.words c.delete.new.c) (g.D.Cells.words c.state_freed.new.self) low (omega arith) (frees g c))

pub returns-clause-stands : goal.returns-clause-stands
returns-clause-stands g c = λ s front back r st. leaves g c s front back r st

pub returns-clause-out : goal.returns-clause-out
returns-clause-out g c = λ was.
    let h = c.requires.listed in
    out_less c.args.layout.now.states (g.D.Cells.words c.args.parts.now) (g.D.Cells.words c.state_freed.new.self) c.args.slot (g.P.Pool.taken c.args.pool.now) (g.P.Pool.taken c.delete.new.pool) _
    h (leaves g c h.shown h.front h.back h.state h.stands) (c.delete.ensures.out h.shown h.front h.back h.state h.stands) was

pub returns-clause-pool : goal.returns-clause-pool
returns-clause-pool g c = λ lasts fit.
    let a = c.args.layout.now.states in
    let h = c.requires.listed in
    subst (λ (xs : List ℕ). PoolFits (g.P.Pool.capacity c.delete.new.pool) (g.P.Pool.taken c.delete.new.pool) (g.P.Pool.gives c.delete.new.pool) (g.P.Pool.takes c.delete.new.pool) a.slots xs)
    (same_states a (g.D.Cells.words c.delete.new.c) (g.D.Cells.words c.state_freed.new.self) _ _ (h.front ++ h.back)
    (c.delete.ensures.stands h.shown h.front h.back h.state h.stands) (leaves g c h.shown h.front h.back h.state h.stands))
    (c.delete.ensures.pool h.shown h.front h.back h.state lasts h.stands fit)
