use Rattle.xf_types.proofs.Decisions.{Decides-same_dir, Decides-same_ptype, Decides-same_addr, Decides-same_prefix, Decides-same_port, Decides-same_selector, Decides-same_mark}
use Rattle.xf_laws.proofs.TestLemmas.{Decides-same_proto, Decides-same_mode, Decides-same_action}
use Rattle.xf_laws.proofs.laws.equalities.Goals as goal

pub returns : goal.returns
returns c = record {
  dir = Decides-same_dir;
  ptype = Decides-same_ptype;
  proto = Decides-same_proto;
  mode = Decides-same_mode;
  action = Decides-same_action;
  addr = Decides-same_addr;
  prefix = Decides-same_prefix;
  port = Decides-same_port;
  selector = Decides-same_selector;
  mark = Decides-same_mark;
}
