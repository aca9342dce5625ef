use Rattle.std.proofs.Common.{refl}
use Rattle.xf_types.specs.Prefixes.{number_of-cut}
use Rattle.xf_types.proofs.AddressLemmas.{width_of-cut, prefix_is}
use Rattle.xf_types.proofs.network.Prefix.new.Goals as goal

pub invariant_of-result : goal.invariant_of-result
invariant_of-result c = rw c.cut.ensures record {
  facts = record { fits = rw width_of-cut c.requires; clean = number_of-cut c.args.addr c.args.len };
}

pub returns : goal.returns
returns c = prefix_is _ c.args.addr c.args.len c.requires refl c.cut.ensures
