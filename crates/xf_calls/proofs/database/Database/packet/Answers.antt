use Rattle.std.proofs.Common.{refl, arith}
use Rattle.xf_calls.proofs.Stepped.{is_step}
use Rattle.xf_calls.proofs.Wholes.{stood, stands_now, after_states}
use Rattle.xf_calls.proofs.database.Database.packet.Goals as goal

pub packet-requires : goal.packet-requires
packet-requires c = record { fits = c.self.invariant.fits; behind = omega arith; stands = stood c.self.invariant; pool = c.self.invariant.state_slots; held = λ slot. refl }

pub invariant_of-self : goal.invariant_of-self
invariant_of-self c =
    after_states c.self.invariant c.packet.ensures.others (c.packet.ensures.answer c.args.self.now (stands_now c.self.invariant c.self.view_is)) (c.packet.ensures.pool refl)

pub returns : goal.returns
returns c = is_step (λ slot. refl) c.packet.ensures.settled (c.packet.ensures.answer c.args.self.now (stands_now c.self.invariant c.self.view_is))
