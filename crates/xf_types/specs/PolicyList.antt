-- The policy list: an ordered list, of which a flow gets the first entry that applies (RFC 4301, 4.4.1).
use Rattle.std.specs.Prelude.{◌≡◌, ℕ, Bool, not, ◌&&◌, ◌||◌, ◌==◌, nat_lt, List, Option, None, Some, filter, find, insert, bit_and, IsTrue, AllPairs}
use Rattle.std.specs.List.{position_or_len}
use Rattle.xf_types.specs.declared.network.Dir.{Dir}
use Rattle.xf_types.specs.declared.network.Flow.{Flow}
use Rattle.xf_types.specs.declared.network.Mark.{Mark}
use Rattle.xf_types.specs.declared.network.Ptype.{Ptype}
use Rattle.xf_types.specs.declared.network.Selector.{Selector}
use Rattle.xf_types.specs.declared.network.Ptype.TheVariants.{Main, Sub}
use Rattle.xf_types.specs.declared.policy.Policy.{Policy}
use Rattle.xf_types.specs.declared.policy.PolicySpec.{PolicySpec}
use Rattle.xf_types.specs.declared.policy.PolicyKey.{PolicyKey}
use Rattle.xf_types.specs.declared.policy.PolicyKey.TheVariants.{Index, Same}
use Rattle.xf_types.specs.declared.policy.PolicyFilter.{PolicyFilter}
use Rattle.xf_types.specs.Selection.{matches}
use Rattle.xf_types.specs.Same.{same_dir, same_ptype, same_action, same_selector, same_mark, same_prefix, meets_one, meets_port}

-- the policy is asked after the other one: by priority, then by number
abbrev pub comes_after : Policy → Policy → Bool
comes_after p q =
    nat_lt q.spec.priority p.spec.priority || ((p.spec.priority == q.spec.priority) && nat_lt q.number p.number)

-- of any two policies the later one comes after the earlier one
abbrev pub IsPolicyOrder : List Policy → Type 0
IsPolicyOrder policies = AllPairs (λ p q. IsTrue (comes_after q p)) policies

-- the list with one more policy, before the first that comes after it
abbrev pub inserted : Policy → List Policy → List Policy
inserted p policies = insert policies (position_or_len (λ q. comes_after q p) policies) p

-- a mark, masked, is the wanted value
abbrev pub has_mark : ℕ → Mark → Bool
has_mark mark wanted = bit_and mark wanted.mask == wanted.value

-- a policy of this ptype applies to the flow: direction, ptype, interface, selector and mark
abbrev pub applies : Ptype → Flow → Policy → Bool
applies ptype flow p =
    same_dir p.spec.dir flow.dir && same_ptype p.spec.ptype ptype && (p.spec.if_id == flow.if_id)
    && matches p.spec.sel flow && has_mark flow.mark p.spec.mark

-- the first of the two that there is
abbrev pub or_else : {X : Type 0} → Option X → Option X → Option X
or_else None other = other
or_else (Some x) other = Some x

-- the first of ptype sub that applies, else the first of ptype main
abbrev pub first_policy : List Policy → Flow → Option Policy
first_policy policies flow = or_else (find (applies Sub flow) policies) (find (applies Main flow) policies)

-- what a policy is listed under: direction, ptype, interface, selector and mark
abbrev pub is_under : Dir → Ptype → Selector → Mark → ℕ → PolicySpec → Bool
is_under dir ptype sel mark if_id spec =
    same_dir dir spec.dir && same_ptype ptype spec.ptype && (if_id == spec.if_id) && same_selector sel spec.sel
    && same_mark mark spec.mark

-- two policies are the same where what they are listed under is equal: no list has both
pub record AreSame (a b : PolicySpec) : Type 0 where
  pub dir : a.dir ≡ b.dir
  pub ptype : a.ptype ≡ b.ptype
  pub if_id : a.if_id ≡ b.if_id
  pub sel : a.sel ≡ b.sel
  pub mark : a.mark ≡ b.mark

-- the test of this
abbrev pub is_same : PolicySpec → PolicySpec → Bool
is_same a b = is_under a.dir a.ptype a.sel a.mark a.if_id b

-- the policy has this index
abbrev pub has_index : ℕ → Policy → Bool
has_index index p = p.index == index

-- a key by index names the policy that has it, a key by selector the one that is listed under it
abbrev pub has_key : PolicyKey → Policy → Bool
has_key (Index dir index) p = p.index == index
has_key (Same dir ptype sel mark if_id) p = is_under dir ptype sel mark if_id p.spec

-- the conditions on prefixes, protocol and ports
abbrev pub meets_selector : PolicyFilter → Selector → Bool
meets_selector f sel =
    meets_one same_prefix f.src sel.src && meets_one same_prefix f.dst sel.dst && meets_one ◌==◌ f.proto sel.proto
    && meets_port f.sport sel.sport && meets_port f.dport sel.dport

-- the conditions on direction, ptype, action, priority and index
abbrev pub meets_rank : PolicyFilter → Policy → Bool
meets_rank f p =
    meets_one same_dir f.dir p.spec.dir && meets_one same_ptype f.ptype p.spec.ptype
    && meets_one same_action f.action p.spec.action && meets_one ◌==◌ f.priority p.spec.priority
    && meets_one ◌==◌ f.index p.index

-- each condition that is given is met, by equality
abbrev pub policy_meets : PolicyFilter → Policy → Bool
policy_meets f p = meets_rank f p && meets_selector f p.spec.sel

-- those that don't pass the test
abbrev pub without : {X : Type 0} → (X → Bool) → List X → List X
without test xs = filter (λ x. not (test x)) xs
