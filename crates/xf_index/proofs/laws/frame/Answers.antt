use Rattle.xf_index.proofs.Frames.{put_outside, taken_outside}
use Rattle.xf_index.proofs.laws.frame.Goals as goal

pub returns : goal.returns
returns c = record {
  put = put_outside;
  taken = taken_outside;
}
