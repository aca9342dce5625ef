-- The policies and flows of the worked rows on policies.
use Rattle.std.specs.Prelude.{◌≡◌, ℕ, [], None, Some, refl, false}
use Rattle.std.proofs.Common.{lit≤}
use Rattle.xf_types.specs.declared.network.Addr.TheVariants.{V4}
use Rattle.xf_types.specs.declared.network.Dir.TheVariants.{In, Out, Fwd}
use Rattle.xf_types.specs.declared.network.Flow.{Flow}
use Rattle.xf_types.specs.declared.network.Prefix.{Prefix}
use Rattle.xf_types.specs.declared.network.Ptype.{Ptype}
use Rattle.xf_types.specs.declared.network.Ptype.TheVariants.{Main, Sub}
use Rattle.xf_types.specs.declared.policy.Action.{Action}
use Rattle.xf_types.specs.declared.policy.Action.TheVariants.{Allow, Block}
use Rattle.xf_types.specs.declared.policy.Policy.{Policy}
use Rattle.xf_types.specs.declared.policy.PolicyFilter.{PolicyFilter}
use Rattle.xf_types.specs.declared.policy.PolicySpec.{PolicySpec}
use Rattle.xf_types.specs.declared.call.Call.{Call}
use Rattle.xf_types.specs.declared.call.Call.TheVariants as call
use Rattle.xf_types.specs.Address.{family_of}
use Rattle.xf_types.specs.Machine.{Machine}
use Rattle.xf_examples.specs.Words.{usual, ten, everything, ten_to_lab, policy_to}

-- 10.1.0.0/16, 10.1.2.3/32, 192.0.2.1/32
abbrev pub ten_one : Prefix
ten_one = record { addr = V4 167837696; len = 16; facts = record { fits = lit≤ tt; clean = refl } }

abbrev pub host : Prefix
host = record { addr = V4 167838211; len = 32; facts = record { fits = lit≤ tt; clean = refl } }

abbrev pub server : Prefix
server = record { addr = V4 3221225985; len = 32; facts = record { fits = lit≤ tt; clean = refl } }

abbrev pub outward : (src dst : Prefix) → family_of src.addr ≡ family_of dst.addr → ℕ → Ptype → Action → PolicySpec
outward src dst same priority ptype action =
    record (policy_to (record { src = src; dst = dst; proto = 0; sport = None; dport = None; facts = record { one_family = same } }) 0) {
      ptype = ptype;
      priority = priority;
      action = action;
    }

-- a flow from 10.1.2.3 to 192.0.2.1
abbrev pub asked_flow : Flow
asked_flow = record { dir = Out; src = V4 167838211; dst = V4 3221225985; proto = 0; sport = 0; dport = 0; mark = 0; if_id = 0 }

abbrev pub asked : Call
asked = call.Flow asked_flow

abbrev pub ten_at : ℕ → Call
ten_at priority = call.PolicyAdd (outward ten everything refl priority Main Allow)

abbrev pub no_filter : PolicyFilter
no_filter = record { dir = None; ptype = None; action = None; priority = None; index = None; src = None; dst = None; proto = None; sport = None; dport = None }

-- the machine with this index counter
abbrev pub counting_from : ℕ → Machine
counting_from next = record { shown = record usual.shown { next_index = next }; own = [] }

-- the record of a policy that was added at time 0
abbrev pub listed : ℕ → ℕ → PolicySpec → Policy
listed number index spec = record { number = number; index = index; added = 0; soft = false; spec = spec }

-- a policy for protocol 6 that goes out, one for protocol 17 that comes in, and one of ptype sub that is forwarded
abbrev pub outward_six : PolicySpec
outward_six = policy_to (record ten_to_lab { proto = 6 }) 0

abbrev pub inward_block : PolicySpec
inward_block = record (policy_to (record ten_to_lab { proto = 17; sport = Some 53; dport = Some 0 }) 0) { dir = In; priority = 5; action = Block }

abbrev pub forward_sub : PolicySpec
forward_sub = record (policy_to (record { src = ten_one; dst = server; proto = 0; sport = None; dport = None; facts = record { one_family = refl } }) 0) { dir = Fwd; ptype = Sub; priority = 2 }
