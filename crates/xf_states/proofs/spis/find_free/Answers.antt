use Rattle.std.proofs.Common.{arith, ap, ◌∙◌, length, not, Bool}
use Rattle.std.specs.Prelude.{None, Some, position}
use Rattle.xf_states.proofs.FreeSpis.{free-found}
use Rattle.xf_states.proofs.spis.find_free.Goals as goal

pub returns-in-None : goal.returns-in-None
returns-in-None c =
    free-found c.args.spec.now c.args.held.now c.in_ok-taken.taken.items c.candidates.result None c.in_ok-taken.ensures.count
    c.candidates.ensures.count c.in_ok-taken.ensures.flags (c.in-None.ensures.place ∙ ap (position not) c.deref.ensures.value)

pub overflow_cast-result : goal.overflow_cast-result
overflow_cast-result c =
    omega (
      arith,
      c.in-Some.ensures.within,
      ap (length {A = Bool}) c.deref.ensures.value,
      c.in_ok-taken.ensures.count,
      c.candidates.ensures.fits,
    )

pub overflow_add-result : goal.overflow_add-result
overflow_add-result c =
    omega (
      arith,
      c.in-Some.ensures.within,
      ap (length {A = Bool}) c.deref.ensures.value,
      c.in_ok-taken.ensures.count,
      c.candidates.ensures.fits,
    )

pub returns : goal.returns
returns c =
    free-found c.args.spec.now c.args.held.now c.in_ok-taken.taken.items c.candidates.result (Some c.in-Some.place) c.in_ok-taken.ensures.count
    c.candidates.ensures.count c.in_ok-taken.ensures.flags (c.in-Some.ensures.place ∙ ap (position not) c.deref.ensures.value)
