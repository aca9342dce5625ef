-- The words for what isn't a number.
use Rattle.std.specs.Prelude.{ℕ, List, codes}
use Rattle.xf_types.specs.declared.network.Dir.{Dir}
use Rattle.xf_types.specs.declared.network.Dir.TheVariants as dirs
use Rattle.xf_types.specs.declared.network.Ptype.{Ptype}
use Rattle.xf_types.specs.declared.network.Ptype.TheVariants as ptypes
use Rattle.xf_types.specs.declared.network.Proto.{Proto}
use Rattle.xf_types.specs.declared.network.Proto.TheVariants as protos
use Rattle.xf_types.specs.declared.policy.Action.{Action}
use Rattle.xf_types.specs.declared.policy.Action.TheVariants as actions
use Rattle.xf_types.specs.declared.policy.Mode.{Mode}
use Rattle.xf_types.specs.declared.policy.Mode.TheVariants as modes
use Rattle.xf_types.specs.declared.policy.Level.{Level}
use Rattle.xf_types.specs.declared.policy.Level.TheVariants as levels

-- a direction
abbrev pub dir_text : Dir → List ℕ
dir_text dirs.In = codes "in"
dir_text dirs.Out = codes "out"
dir_text dirs.Fwd = codes "fwd"

-- a kind of policy
abbrev pub ptype_text : Ptype → List ℕ
ptype_text ptypes.Main = codes "main"
ptype_text ptypes.Sub = codes "sub"

-- what a policy does
abbrev pub action_text : Action → List ℕ
action_text actions.Allow = codes "allow"
action_text actions.Block = codes "block"

-- an IPsec protocol
abbrev pub proto_text : Proto → List ℕ
proto_text protos.Esp = codes "esp"
proto_text protos.Ah = codes "ah"
proto_text protos.Comp = codes "comp"

-- how a state wraps packets
abbrev pub mode_text : Mode → List ℕ
mode_text modes.Transport = codes "transport"
mode_text modes.Tunnel = codes "tunnel"
mode_text modes.Beet = codes "beet"
mode_text modes.Ro = codes "ro"
mode_text modes.InTrigger = codes "in_trigger"

-- whether a template is skipped
abbrev pub level_text : Level → List ℕ
level_text levels.Required = codes "required"
level_text levels.Use = codes "use"
