use Rattle.xf_desk.proofs.asking.policy_pool.Given as goal

abbrev pub ghosts-ask_slots : goal.ghosts-ask_slots
ghosts-ask_slots a = record { live = a.live.now; pass = a.pass }
