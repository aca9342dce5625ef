use Rattle.xf_rows.proofs.Beginning.{stands_empty}
use Rattle.xf_rows.proofs.Reading.{shown_told, machine_told}
use Rattle.xf_rows.proofs.laws.shown.Goals as goal

pub returns : goal.returns
returns c = record { shown = shown_told; machine = machine_told; empty = stands_empty }
