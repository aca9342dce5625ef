-- Laws of the tests: each is true exactly where its fact holds.
use Rattle.std.specs.Prelude.{◌≡◌, ℕ, Option, IsTrue, ◌↔◌}
use Rattle.xf_types.specs.declared.network.Addr.{Addr}
use Rattle.xf_types.specs.declared.network.Dir.{Dir}
use Rattle.xf_types.specs.declared.network.Flow.{Flow}
use Rattle.xf_types.specs.declared.network.Mark.{Mark}
use Rattle.xf_types.specs.declared.network.Prefix.{Prefix}
use Rattle.xf_types.specs.declared.network.Proto.{Proto}
use Rattle.xf_types.specs.declared.network.Ptype.{Ptype}
use Rattle.xf_types.specs.declared.network.Selector.{Selector}
use Rattle.xf_types.specs.declared.policy.Action.{Action}
use Rattle.xf_types.specs.declared.policy.Mode.{Mode}
use Rattle.xf_types.specs.declared.policy.Policy.{Policy}
use Rattle.xf_types.specs.declared.policy.PolicySpec.{PolicySpec}
use Rattle.xf_types.specs.Same.{same_dir, same_ptype, same_proto, same_mode, same_action, same_addr, same_prefix, same_port, same_selector, same_mark}
use Rattle.xf_types.specs.Selection.{IsInPrefix, in_prefix, Matches, matches}
use Rattle.xf_types.specs.PolicyList.{AreSame, is_same, has_mark, applies}

-- the tests of equality
pub record EqualityLaws : Type 0 where
  pub dir : (a b : Dir) → IsTrue (same_dir a b) ↔ (a ≡ b)
  pub ptype : (a b : Ptype) → IsTrue (same_ptype a b) ↔ (a ≡ b)
  pub proto : (a b : Proto) → IsTrue (same_proto a b) ↔ (a ≡ b)
  pub mode : (a b : Mode) → IsTrue (same_mode a b) ↔ (a ≡ b)
  pub action : (a b : Action) → IsTrue (same_action a b) ↔ (a ≡ b)
  pub addr : (a b : Addr) → IsTrue (same_addr a b) ↔ (a ≡ b)
  pub prefix : (a b : Prefix) → IsTrue (same_prefix a b) ↔ (a ≡ b)
  pub port : (a b : Option ℕ) → IsTrue (same_port a b) ↔ (a ≡ b)
  pub selector : (a b : Selector) → IsTrue (same_selector a b) ↔ (a ≡ b)
  pub mark : (a b : Mark) → IsTrue (same_mark a b) ↔ (a ≡ b)

-- a policy of this ptype applies to a flow (RFC 4301, 4.4.1.1)
pub record Applies (ptype : Ptype) (flow : Flow) (p : Policy) : Type 0 where
  pub dir : p.spec.dir ≡ flow.dir
  pub kind : p.spec.ptype ≡ ptype
  pub if_id : p.spec.if_id ≡ flow.if_id
  pub sel : Matches p.spec.sel flow
  pub mark : IsTrue (has_mark flow.mark p.spec.mark)

-- the tests of the other facts
pub record TestLaws : Type 0 where
  pub prefix : (addr : Addr) (prefix : Prefix) → IsTrue (in_prefix addr prefix) ↔ IsInPrefix addr prefix
  pub selector : (sel : Selector) (flow : Flow) → IsTrue (matches sel flow) ↔ Matches sel flow
  pub same : (a b : PolicySpec) → IsTrue (is_same a b) ↔ AreSame a b
  pub applying : (ptype : Ptype) (flow : Flow) (p : Policy) → IsTrue (applies ptype flow p) ↔ Applies ptype flow p
