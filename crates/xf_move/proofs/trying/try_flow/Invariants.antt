use Rattle.xf_move.proofs.trying.try_flow.Given as goal

abbrev pub ghosts-ask : goal.ghosts-ask
ghosts-ask g a = record { live = a.live.now; pass = a.pass }
