use Rattle.std.proofs.Common.{refl}
use Rattle.xf_cells.specs.Backs.{Lasts}
use Rattle.xf_calls.proofs.Stepped.{is_step}
use Rattle.xf_calls.proofs.Wholes.{ticks_ready, stands_now, after_tick}
use Rattle.xf_calls.proofs.database.Database.tick.Goals as goal

pub tick-requires : goal.tick-requires
tick-requires c = record {
  ready = ticks_ready c.self.invariant;
  stands = record { machine = _; stands = c.self.invariant.stands };
  policies_back = Lasts refl;
  states_back = Lasts refl;
  policies = c.self.invariant.policy_slots;
  states = c.self.invariant.state_slots;
}

pub invariant_of-self : goal.invariant_of-self
invariant_of-self c =
    after_tick c.self.invariant c.tick.ensures.outside (c.tick.ensures.answer c.args.self.now (stands_now c.self.invariant c.self.view_is))
    (c.tick.ensures.policies refl) (c.tick.ensures.states refl)

pub returns : goal.returns
returns c = is_step (λ slot. refl) c.tick.ensures.settled (c.tick.ensures.answer c.args.self.now (stands_now c.self.invariant c.self.view_is))
