use Rattle.std.proofs.Common.{refl}
use Rattle.xf_calls.proofs.Stepped.{is_step}
use Rattle.xf_calls.proofs.Wholes.{ready, stood, sids_left, stands_now, after_states}
use Rattle.xf_calls.proofs.database.Database.flow.Goals as goal

pub flow-flowed-requires : goal.flow-flowed-requires
flow-flowed-requires c = record { ready = ready c.self.invariant; stands = stood c.self.invariant; pool = c.self.invariant.state_slots; young = sids_left (stands_now c.self.invariant c.self.view_is) c.requires }

pub invariant_of-self : goal.invariant_of-self
invariant_of-self c =
    after_states c.self.invariant c.flow-flowed.ensures.others (c.flow-flowed.ensures.answer c.args.self.now (stands_now c.self.invariant c.self.view_is)) (c.flow-flowed.ensures.pool refl)

pub returns : goal.returns
returns c = is_step (λ slot. refl) (c.flow-flowed.ensures.settled refl) (c.flow-flowed.ensures.answer c.args.self.now (stands_now c.self.invariant c.self.view_is))
