use Rattle.xf_move.proofs.finding.output_slot.Given as goal

abbrev pub ghosts-output_slot_lent : goal.ghosts-output_slot_lent
ghosts-output_slot_lent a = record { live = a.live.now; pass = a.pass }
