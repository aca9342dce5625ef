use Rattle.std.proofs.Common.{◌≡◌, ℕ, List, ap, sym, ◌∙◌, subst}
use Rattle.xf_types.specs.declared.call.Call.TheVariants.{PolicySet}
use Rattle.xf_types.specs.Steps.{step}
use Rattle.xf_image.specs.Readings.{listed_in}
use Rattle.xf_spd.specs.Slots.{PoolFits}
use Rattle.xf_beside.specs.Standing.{StandsFor, Stood}
use Rattle.xf_beside.proofs.answering.answer.Goals as goal

pub returns-in-PolicySet-clause-stood : goal.returns-in-PolicySet-clause-stood
returns-in-PolicySet-clause-stood g c =
    let a = c.args.spd.now.area in
    let k = c.requires.stood in
    let st : StandsFor a (g.C.Cells.words c.is_young.new.c) c.args.now k.machine = subst (λ (i : List ℕ). StandsFor a i c.args.now k.machine) (sym c.is_young.ensures.words) k.for_it in
    let same : listed_in a (g.C.Cells.words c.set.new.c) ≡ listed_in a (g.C.Cells.words c.args.c.now) =
    c.set.ensures.slots c.args.now k.machine st ∙ ap (λ (i : List ℕ). listed_in a i) c.is_young.ensures.words in
    record {
      machine = (step k.machine (PolicySet c.in-PolicySet.thresholds)).machine;
      for_it = (c.set.ensures.answer c.args.now k.machine st).stands;
      pool = subst (λ (xs : List ℕ). PoolFits (g.P.Pool.capacity c.args.pool.now) (g.P.Pool.taken c.args.pool.now) (g.P.Pool.gives c.args.pool.now) (g.P.Pool.takes c.args.pool.now) a.slots xs) (sym same) k.pool;
    }

pub returns-in-PolicyDelete-clause-stood : goal.returns-in-PolicyDelete-clause-stood
returns-in-PolicyDelete-clause-stood g c =
    c.delete.ensures.stood c.args.now
    (subst (λ (i : List ℕ). Stood c.args.spd.now.area i c.args.now (g.P.Pool.capacity c.args.pool.now) (g.P.Pool.taken c.args.pool.now) (g.P.Pool.gives c.args.pool.now) (g.P.Pool.takes c.args.pool.now))
    (sym c.is_young.ensures.words) c.requires.stood)

pub returns-in-PolicyDeleteAll-clause-stood : goal.returns-in-PolicyDeleteAll-clause-stood
returns-in-PolicyDeleteAll-clause-stood g c =
    c.remove_all.ensures.stood c.args.now
    (subst (λ (i : List ℕ). Stood c.args.spd.now.area i c.args.now (g.P.Pool.capacity c.args.pool.now) (g.P.Pool.taken c.args.pool.now) (g.P.Pool.gives c.args.pool.now) (g.P.Pool.takes c.args.pool.now))
    (sym c.is_young.ensures.words) c.requires.stood)

pub returns-in-PolicyFlush-clause-stood : goal.returns-in-PolicyFlush-clause-stood
returns-in-PolicyFlush-clause-stood g c =
    c.remove_all-in-PolicyFlush.ensures.stood c.args.now
    (subst (λ (i : List ℕ). Stood c.args.spd.now.area i c.args.now (g.P.Pool.capacity c.args.pool.now) (g.P.Pool.taken c.args.pool.now) (g.P.Pool.gives c.args.pool.now) (g.P.Pool.takes c.args.pool.now))
    (sym c.is_young.ensures.words) c.requires.stood)
