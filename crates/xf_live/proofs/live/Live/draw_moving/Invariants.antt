use Rattle.std.specs.Prelude.{Some}
use Rattle.xf_live.proofs.live.Live.draw_moving.Given as goal

abbrev pub ghosts-draw_moving : goal.ghosts-draw_moving
ghosts-draw_moving g a = record { entry = Some a.entry.now }
