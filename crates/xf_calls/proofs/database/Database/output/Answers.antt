use Rattle.std.proofs.Common.{refl, arith}
use Rattle.xf_calls.proofs.Stepped.{is_step}
use Rattle.xf_calls.proofs.Wholes.{stood, stands_now, after_states}
use Rattle.xf_calls.proofs.database.Database.output.Goals as goal

pub output-requires : goal.output-requires
output-requires c = record { fits = c.self.invariant.fits; behind = omega arith; stands = stood c.self.invariant; pool = c.self.invariant.state_slots; held = λ slot. refl; guess = c.slot-guess.ensures }

pub invariant_of-self : goal.invariant_of-self
invariant_of-self c =
    after_states c.self.invariant c.output.ensures.others (c.output.ensures.answer c.args.self.now (stands_now c.self.invariant c.self.view_is)) (c.output.ensures.pool refl)

pub returns : goal.returns
returns c = is_step (λ slot. refl) c.output.ensures.settled (c.output.ensures.answer c.args.self.now (stands_now c.self.invariant c.self.view_is))
