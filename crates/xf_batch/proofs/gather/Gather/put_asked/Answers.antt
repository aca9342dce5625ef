use Rattle.xf_batch.proofs.gather.Gather.put_asked.Goals as goal

pub returns-in-Flow : goal.returns-in-Flow
returns-in-Flow c = λ workers g before. rw (c.in-Some.is, c.in-Flow.is) (c.put_flow.ensures workers c.args.now g before)

pub returns-in-Packet : goal.returns-in-Packet
returns-in-Packet c = λ workers g before. rw (c.in-Some.is, c.in-Packet.is) (c.put_packet.ensures workers c.args.now g before)
