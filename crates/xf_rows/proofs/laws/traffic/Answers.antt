use Rattle.xf_rows.proofs.Telling.{tells_packet, tells_output}
use Rattle.xf_rows.proofs.Treating.{packet_treated, output_treated}
use Rattle.xf_rows.proofs.laws.traffic.Goals as goal

pub returns : goal.returns
returns c = record { tells_packet = tells_packet; tells_output = tells_output; packet = packet_treated; output = output_treated }
