use Rattle.xf_serve.proofs.changing.policy_add.Given as goal

abbrev pub ghosts-add_lent : goal.ghosts-add_lent
ghosts-add_lent g a = record { live = a.live.now; pass = a.pass }
