use Rattle.std.proofs.Common.{ℕ, List, sym, ◌∙◌, subst}
use Rattle.xf_types.specs.FlowRules.{acquired}
use Rattle.xf_types.specs.Machine.{Machine}
use Rattle.xf_sadimage.specs.States.{StatesStand}
use Rattle.xf_sad.specs.Changes.{IsAt}
use Rattle.xf_sad.specs.Slots.{PoolFits, listed_in}
use Rattle.xf_rows.specs.Rows.{entries_in}
use Rattle.xf_rows.specs.Stands.{Stands}
use Rattle.xf_statecalls.proofs.Come.{at_now}
use Rattle.xf_traffic.proofs.Acquired.{told_fault}
use Rattle.xf_traffic.proofs.acquiring.acquire_words.Given as given
use Rattle.xf_traffic.proofs.acquiring.acquire_words.Goals as goal

pub returns-clause-hidden : goal.returns-clause-hidden
returns-clause-hidden g c = g.met.D.Parts.kept_hidden c.acquire.new.c c.args.parts.now (c.acquire.ensures.rest ∙ c.read-now.ensures.rest)

pub returns-clause-beside : goal.returns-clause-beside
returns-clause-beside g c = g.met.D.Parts.kept c.acquire.new.c c.args.parts.now (c.acquire.ensures.rest ∙ c.read-now.ensures.rest)

pub returns-clause-refused : goal.returns-clause-refused
returns-clause-refused g c = λ err. c.acquire.ensures.refused err ∙ c.read-now.ensures.words

-- what the call rests on, once the time was loaded
at : (g : given.Over) (c : goal.After-acquire g) (m : Machine) → Stands c.args.layout.now (g.D.Cells.words c.args.parts.now) (g.D.Parts.beside c.args.parts.now) m
    → IsAt m.shown c.read-now.result
at g c m r =
    at_now c.args.layout.now (g.D.Cells.words c.args.parts.now) (g.D.Parts.beside c.args.parts.now) m c.read-now.result r c.read-now.ensures.word c.requires.young

words : (g : given.Over) (c : goal.After-acquire g) (m : Machine) (r : Stands c.args.layout.now (g.D.Cells.words c.args.parts.now) (g.D.Parts.beside c.args.parts.now) m)
    → StatesStand c.args.layout.now.states (g.D.Cells.words c.read-now.new.cells) m.shown (entries_in r.rows)
words g c m r = subst (λ (w : List ℕ). StatesStand c.args.layout.now.states w m.shown (entries_in r.rows)) (sym c.read-now.ensures.words) r.on_states

fits : (g : given.Over) (c : goal.After-acquire g)
    → PoolFits (g.P.Pool.capacity c.args.pool.now) (g.P.Pool.taken c.args.pool.now) (g.P.Pool.gives c.args.pool.now) (g.P.Pool.takes c.args.pool.now)
    c.args.layout.now.states.slots (listed_in c.args.layout.now.states (g.D.Cells.words c.read-now.new.cells))
fits g c =
    subst (λ (w : List ℕ). PoolFits (g.P.Pool.capacity c.args.pool.now) (g.P.Pool.taken c.args.pool.now) (g.P.Pool.gives c.args.pool.now) (g.P.Pool.takes c.args.pool.now)
    c.args.layout.now.states.slots (listed_in c.args.layout.now.states w)) (sym c.read-now.ensures.words) c.requires.pool

pub returns-clause-full : goal.returns-clause-full
returns-clause-full g c = λ m r.
    let w = c.args.wanted.now in
    told_fault (g.P.Pool.held c.acquire.new.pool) m.shown (λ t. (acquired t w.policy w.template w.src w.dst).reply) _ c.acquire.result
    (c.acquire.ensures.reply m.shown (entries_in r.rows) (at g c m r) (words g c m r) (fits g c))

pub returns-clause-comes : goal.returns-clause-comes
returns-clause-comes g c = λ m r. c.acquire.ensures.stands m.shown (entries_in r.rows) (at g c m r) (words g c m r) (fits g c)

pub returns-clause-pool : goal.returns-clause-pool
returns-clause-pool g c = λ lasts.
    let h = c.requires.stands in
    c.acquire.ensures.pool h.machine.shown (entries_in h.stands.rows) lasts (at g c h.machine h.stands) (words g c h.machine h.stands) (fits g c)
