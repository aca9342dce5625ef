use Rattle.xf_serve.proofs.reading.read.Given as goal

abbrev pub ghosts-ask : goal.ghosts-ask
ghosts-ask g a = record { live = a.live.now; pass = a.pass }
