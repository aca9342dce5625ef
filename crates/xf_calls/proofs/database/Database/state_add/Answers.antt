use Rattle.std.proofs.Common.{refl}
use Rattle.xf_calls.proofs.Stepped.{is_step}
use Rattle.xf_calls.proofs.Wholes.{ready, stood, sids_left, stands_now, after_states}
use Rattle.xf_calls.proofs.database.Database.state_add.Goals as goal

pub state_add-requires : goal.state_add-requires
state_add-requires c = record { ready = ready c.self.invariant; stands = stood c.self.invariant; pool = c.self.invariant.state_slots; turns = λ slot. refl; young = sids_left (stands_now c.self.invariant c.self.view_is) c.requires }

pub invariant_of-self : goal.invariant_of-self
invariant_of-self c =
    after_states c.self.invariant c.state_add.ensures.others (c.state_add.ensures.answer c.args.self.now (stands_now c.self.invariant c.self.view_is)) (c.state_add.ensures.pool refl)

pub returns : goal.returns
returns c = is_step (λ slot. refl) (c.state_add.ensures.settled refl) (c.state_add.ensures.answer c.args.self.now (stands_now c.self.invariant c.self.view_is))
