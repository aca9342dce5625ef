use Rattle.xf_sadimage.proofs.Empties.{zeros_stand}
use Rattle.xf_sadimage.proofs.Keeping.{stands_kept, stands_alike}
use Rattle.xf_sadimage.proofs.Linking.{comes_linked, leaves_linked}
use Rattle.xf_sadimage.proofs.laws.states.Goals as goal

pub returns : goal.returns
returns c = record { empty = zeros_stand; apart = stands_kept; alike = stands_alike; comes = comes_linked; leaves = leaves_linked }
