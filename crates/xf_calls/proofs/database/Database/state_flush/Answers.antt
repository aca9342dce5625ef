use Rattle.std.proofs.Common.{refl}
use Rattle.xf_cells.specs.Backs.{Lasts}
use Rattle.xf_calls.proofs.Stepped.{is_step}
use Rattle.xf_calls.proofs.Wholes.{ready, stood, stands_now, after_states}
use Rattle.xf_calls.proofs.database.Database.state_flush.Goals as goal

pub state_flush-requires : goal.state_flush-requires
state_flush-requires c = record { ready = ready c.self.invariant; stands = stood c.self.invariant; pool = c.self.invariant.state_slots; turns = record { turns = λ slot r at yes. refl }; back = Lasts refl }

pub invariant_of-self : goal.invariant_of-self
invariant_of-self c =
    after_states c.self.invariant c.state_flush.ensures.others (c.state_flush.ensures.answer c.args.self.now (stands_now c.self.invariant c.self.view_is)) (c.state_flush.ensures.pool refl)

pub returns : goal.returns
returns c = is_step (λ slot. refl) c.state_flush.ensures.settled (c.state_flush.ensures.answer c.args.self.now (stands_now c.self.invariant c.self.view_is))
