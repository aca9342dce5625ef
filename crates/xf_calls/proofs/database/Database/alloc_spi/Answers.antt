use Rattle.std.proofs.Common.{refl}
use Rattle.xf_calls.proofs.Stepped.{is_step}
use Rattle.xf_calls.proofs.Wholes.{ready, stood, sids_left, stands_now, after_states}
use Rattle.xf_calls.proofs.database.Database.alloc_spi.Goals as goal

pub alloc_spi-requires : goal.alloc_spi-requires
alloc_spi-requires c = record { ready = ready c.self.invariant; stands = stood c.self.invariant; pool = c.self.invariant.state_slots; young = sids_left (stands_now c.self.invariant c.self.view_is) c.requires }

pub invariant_of-self : goal.invariant_of-self
invariant_of-self c =
    after_states c.self.invariant c.alloc_spi.ensures.others (c.alloc_spi.ensures.answer c.args.self.now (stands_now c.self.invariant c.self.view_is)) (c.alloc_spi.ensures.pool refl)

pub returns : goal.returns
returns c = is_step (λ slot. refl) (c.alloc_spi.ensures.settled refl) (c.alloc_spi.ensures.answer c.args.self.now (stands_now c.self.invariant c.self.view_is))
