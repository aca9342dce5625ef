use Rattle.xf_local.proofs.OneState.{packet-named, packet-other, output-alone, tick-event, tick-aged}
use Rattle.xf_local.proofs.laws.one_state.Goals as goal

pub returns : goal.returns
returns c =
    record {
      packet = packet-named;
      other_packet = packet-other;
      output = output-alone;
      event = tick-event;
      aged = tick-aged;
    }
