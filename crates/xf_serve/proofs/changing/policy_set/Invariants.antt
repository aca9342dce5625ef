use Rattle.xf_serve.proofs.changing.policy_set.Given as goal

abbrev pub ghosts-set_lent : goal.ghosts-set_lent
ghosts-set_lent g a = record { live = a.live.now; pass = a.pass }
