use Rattle.xf_traffic.proofs.lookups.output_slot.Goals as goal

pub returns-clause-found : goal.returns-clause-found
returns-clause-found g c = λ image agrees. record { is = λ s entries states st. c.by_sid_near.ensures.state image s entries agrees states st }
