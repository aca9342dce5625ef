use Rattle.std.proofs.Common.{refl}
use Rattle.xf_calls.proofs.Stepped.{is_step}
use Rattle.xf_calls.proofs.Wholes.{ready, stood, stands_now, after_states}
use Rattle.xf_calls.proofs.database.Database.state_delete.Goals as goal

pub state_delete-requires : goal.state_delete-requires
state_delete-requires c = record { ready = ready c.self.invariant; stands = stood c.self.invariant; pool = c.self.invariant.state_slots; held = λ slot. refl }

pub invariant_of-self : goal.invariant_of-self
invariant_of-self c =
    after_states c.self.invariant c.state_delete.ensures.others (c.state_delete.ensures.answer c.args.self.now (stands_now c.self.invariant c.self.view_is)) (c.state_delete.ensures.pool refl)

pub returns : goal.returns
returns c = is_step (λ slot. refl) c.state_delete.ensures.settled (c.state_delete.ensures.answer c.args.self.now (stands_now c.self.invariant c.self.view_is))
