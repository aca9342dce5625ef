-- From the words behind each tmpl to templates.
use Rattle.std.specs.Prelude.{ℕ, if◌then◌else◌, List, [], ◌∷◌, Option, unwrap_or, Result, Ok}
use Rattle.xf_types.specs.declared.network.Addr.{Addr}
use Rattle.xf_types.specs.declared.network.Proto.{Proto}
use Rattle.xf_types.specs.declared.policy.Level.TheVariants.{Required}
use Rattle.xf_types.specs.declared.policy.Mode.TheVariants.{Transport}
use Rattle.xf_types.specs.declared.policy.Template.{Template}
use Rattle.xf_types.specs.declared.status.Reason.{Reason}
use Rattle.xf_grammar.specs.declared.row.Field.{Field}
use Rattle.xf_grammar.specs.declared.row.Slot.TheVariants as slot
use Rattle.xf_grammar.specs.Grammar.{◌>>=◌}
use Rattle.xf_grammar.specs.Lookups.{has_in_group, u32_in_group, addr_in_group, ipsec_in_group, mode_in_group, level_in_group, required}
use Rattle.xf_read.specs.declared.template.TheConstants.{BEHIND_TMPL}
use Rattle.xf_read.specs.Selectors.{zero_of, judged_family}

-- an address that is left out is the zero address of the other's family, and of the policy's where both are left out
abbrev pub template_end : Option Addr → Option Addr → Addr → Addr
template_end given other policy = unwrap_or given (zero_of (unwrap_or other policy))

-- a template of this protocol: the other words have their defaults
abbrev pub template_with : Proto → ℕ → Addr → List Field → Template
template_with proto group policy fs = record {
  src = template_end (addr_in_group group slot.Src fs) (addr_in_group group slot.Dst fs) policy;
  dst = template_end (addr_in_group group slot.Dst fs) (addr_in_group group slot.Src fs) policy;
  proto = proto;
  spi = unwrap_or (u32_in_group group slot.Spi fs) 0;
  mode = unwrap_or (mode_in_group group fs) Transport;
  reqid = unwrap_or (u32_in_group group slot.Reqid fs) 0;
  level = unwrap_or (level_in_group group fs) Required;
}

-- proto is required
unfoldable pub template_of : ℕ → Addr → List Field → Result Template Reason
template_of group policy fs = do
  proto ← required (ipsec_in_group group fs)
  Ok (template_with proto group policy fs)

-- the templates that tmpl began among these groups, from the left
abbrev pub templates_among : List ℕ → Addr → List Field → Result (List Template) Reason
templates_among [] policy fs = Ok []
templates_among (group ∷ groups) policy fs =
    if has_in_group group slot.Tmpl fs
    then (template_of group policy fs >>= λ template. templates_among groups policy fs >>= λ rest. Ok (template ∷ rest))
    else templates_among groups policy fs

-- a line's templates, for a policy of this address's family
abbrev pub templates_of : Addr → List Field → Result (List Template) Reason
templates_of policy fs = templates_among BEHIND_TMPL policy fs

-- the two addresses of each template have one family
abbrev pub judged_templates : List Template → Result (Unit {0}) Reason
judged_templates [] = Ok tt
judged_templates (template ∷ rest) = judged_family template.src template.dst >>= λ _. judged_templates rest
