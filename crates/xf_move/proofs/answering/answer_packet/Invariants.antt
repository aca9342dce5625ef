use Rattle.xf_move.proofs.answering.answer_packet.Given as goal

abbrev pub ghosts-packet_lent : goal.ghosts-packet_lent
ghosts-packet_lent g a = record { live = a.live.now; pass = a.pass }
