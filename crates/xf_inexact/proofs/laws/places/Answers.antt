use Rattle.std.proofs.Common.{arith}
use Rattle.xf_inexact.proofs.Apart.{behind_is_beside, below_is, bucket_is, chain_is_beside, chains_lay, policies_fit, policy_is_beside, root_lies, root_outside, trees_lay}
use Rattle.xf_inexact.proofs.laws.places.Goals as goal

pub returns : goal.returns
returns c = record {
  policies = λ n f. policies_fit c.args.inexact.now n f;
  lies = λ n r f e. root_lies c.args.inexact.now n r f e;
  lays = λ n f. chains_lay c.args.inexact.now n f;
  bucket = λ b h. bucket_is c.args.inexact.now b h;
  below = λ n h. below_is c.args.inexact.now n h;
  layouts = trees_lay c.args.inexact.now;
  root_out = λ r e. root_outside c.args.inexact.now r e;
  node_out = λ s k h. omega arith;
  free_out = λ h. omega arith;
  live_out = λ h. omega arith;
  chain_beside = λ r p e h k. chain_is_beside c.args.inexact.now r p e h k;
  policy_beside = λ r p is e h. policy_is_beside c.args.inexact.now r p is e h;
  behind_beside = λ r p e h. behind_is_beside c.args.inexact.now r p e h;
}
