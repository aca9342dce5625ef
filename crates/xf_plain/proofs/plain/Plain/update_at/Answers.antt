use Rattle.std.proofs.Common.{◌<◌, sym, subst, length}
use Rattle.xf_types.specs.Machine.{Machine}
use Rattle.xf_plain.proofs.KeptStates.{kept-refreshed}
use Rattle.xf_plain.proofs.plain.Plain.update_at.Goals as goal

pub invariant_of-self : goal.invariant_of-self
invariant_of-self c = record {
  policies = c.self.invariant.policies;
  seq = c.self.invariant.seq;
  states =
      kept-refreshed c.args.spec.now c.self.inside.states c.refresh.new.self c.args.place _ _
      (subst (λ (m : Machine). c.args.place < length m.shown.states) (sym c.self.view_is) c.requires.within)
      c.refresh.ensures c.self.invariant.states;
}
