use Rattle.xf_move.proofs.finding.packet_slot.Given as goal

abbrev pub ghosts-packet_slot_lent : goal.ghosts-packet_slot_lent
ghosts-packet_slot_lent a = record { live = a.live.now; pass = a.pass }
