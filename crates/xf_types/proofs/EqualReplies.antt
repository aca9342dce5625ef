-- Replies are equal exactly where the derived test says so.
use Rattle.std.proofs.Common.{ℕ, ◌≡◌, Bool, Option, Decides, ap}
use Rattle.std.specs.Bool.{beq}
use Rattle.std.specs.Cmp.{booleans_Decides}
use mathlib.Core.HLevel.{is_prop→PathP}
use Rattle.xf_types.specs.declared.network.Addr.{Addr}
use Rattle.xf_types.specs.declared.network.Mark.{Mark}
use Rattle.xf_types.specs.declared.network.Proto.{Proto}
use Rattle.xf_types.specs.declared.network.Selector.{Selector}
use Rattle.xf_types.specs.declared.policy.Limits.{Limits}
use Rattle.xf_types.specs.declared.policy.Mode.{Mode}
use Rattle.xf_types.specs.declared.state.SaSpec.{SaSpec}
use Rattle.xf_types.specs.declared.call.Reply.{Reply}
use Rattle.xf_types.specs.Facts.{IsSaSpec}
use Rattle.xf_types.proofs.SameFields.{prefix_ext, selector_ext, IsSaSpec-prop}
use Rattle.xf_types.specs.contracts.network.Addr as addr-type
use Rattle.xf_types.specs.contracts.network.Dir as dir-type
use Rattle.xf_types.specs.contracts.network.Proto as proto-type
use Rattle.xf_types.specs.contracts.network.Ptype as ptype-type
use Rattle.xf_types.specs.contracts.policy.Action as action-type
use Rattle.xf_types.specs.contracts.policy.Level as level-type
use Rattle.xf_types.specs.contracts.policy.Mode as mode-type
use Rattle.xf_types.specs.contracts.call.Event as event-type
use Rattle.xf_types.specs.contracts.call.Reply as reply-type
use Rattle.xf_types.specs.contracts.network.AddrPartialEq.TheImpl as addr-eq
use Rattle.xf_types.specs.contracts.network.DirPartialEq.TheImpl as dir-eq
use Rattle.xf_types.specs.contracts.network.MarkPartialEq.TheImpl as mark-eq
use Rattle.xf_types.specs.contracts.network.PrefixPartialEq.TheImpl as prefix-eq
use Rattle.xf_types.specs.contracts.network.ProtoPartialEq.TheImpl as proto-eq
use Rattle.xf_types.specs.contracts.network.PtypePartialEq.TheImpl as ptype-eq
use Rattle.xf_types.specs.contracts.network.SelectorPartialEq.TheImpl as selector-eq
use Rattle.xf_types.specs.contracts.policy.ActionPartialEq.TheImpl as action-eq
use Rattle.xf_types.specs.contracts.policy.LevelPartialEq.TheImpl as level-eq
use Rattle.xf_types.specs.contracts.policy.LimitsPartialEq.TheImpl as limits-eq
use Rattle.xf_types.specs.contracts.policy.ModePartialEq.TheImpl as mode-eq
use Rattle.xf_types.specs.contracts.policy.PolicyPartialEq.TheImpl as policy-eq
use Rattle.xf_types.specs.contracts.policy.PolicySpecPartialEq.TheImpl as policy_spec-eq
use Rattle.xf_types.specs.contracts.policy.PoliciesPartialEq.TheImpl as policies-eq
use Rattle.xf_types.specs.contracts.policy.TemplatePartialEq.TheImpl as template-eq
use Rattle.xf_types.specs.contracts.policy.TemplatesPartialEq.TheImpl as templates-eq
use Rattle.xf_types.specs.contracts.state.SaPartialEq.TheImpl as sa-eq
use Rattle.xf_types.specs.contracts.state.SasPartialEq.TheImpl as sas-eq
use Rattle.xf_types.specs.contracts.state.SaSpecPartialEq.TheImpl as sa_spec-eq
use Rattle.xf_types.specs.contracts.call.EventPartialEq.TheImpl as event-eq
use Rattle.xf_types.specs.contracts.call.EventsPartialEq.TheImpl as events-eq
use Rattle.xf_types.specs.contracts.call.HopPartialEq.TheImpl as hop-eq
use Rattle.xf_types.specs.contracts.call.PathPartialEq.TheImpl as path-eq
use Rattle.xf_types.specs.contracts.call.ReplyPartialEq.TheImpl as reply-eq
use Rattle.xf_types.proofs.Derived.{Same, num, options, lists, none, one, more, told, bare, variants}

flag : Same beq
flag = booleans_Decides

proto : Same proto-eq.eq-value.it
proto = bare proto-type.the_type tt

dir : Same dir-eq.eq-value.it
dir = bare dir-type.the_type tt

ptype : Same ptype-eq.eq-value.it
ptype = bare ptype-type.the_type tt

action : Same action-eq.eq-value.it
action = bare action-type.the_type tt

level : Same level-eq.eq-value.it
level = bare level-type.the_type tt

mode : Same mode-eq.eq-value.it
mode = bare mode-type.the_type tt

addr : Same addr-eq.eq-value.it
addr = variants addr-type.enum _ (one num, (one num, tt))

prefix : Same prefix-eq.eq-value.it
prefix = told (λ p. (p.addr, p.len)) (λ a b h. prefix_ext a b (ap (λ (x : Addr × ℕ). x.0) h) (ap (λ (x : Addr × ℕ). x.1) h)) (more addr num)

event : Same event-eq.eq-value.it
event = variants event-type.enum _ (one num, (one num, (one num, (one num, tt))))

mark : Same mark-eq.eq-value.it
mark = told (λ m. (m.value, m.mask)) (λ a b h. λ i. record { value = (h i).0; mask = (h i).1 }) (more num num)

selector : Same selector-eq.eq-value.it
selector =
    told (λ s. (s.src, (s.dst, (s.proto, (s.sport, s.dport)))))
    (λ a b h. selector_ext a b (λ i. (h i).0) (λ i. (h i).1.0) (λ i. (h i).1.1.0) (λ i. (h i).1.1.1.0) (λ i. (h i).1.1.1.1))
    (more prefix (more prefix (more num (more (options num) (options num)))))

limits : Same limits-eq.eq-value.it
limits =
    told (λ l. (l.time_soft, (l.time_hard, (l.use_soft, (l.use_hard, (l.byte_soft, (l.byte_hard, (l.packet_soft, l.packet_hard))))))))
    (λ a b h. λ i. let x = h i in record {
      time_soft = x.0;
      time_hard = x.1.0;
      use_soft = x.1.1.0;
      use_hard = x.1.1.1.0;
      byte_soft = x.1.1.1.1.0;
      byte_hard = x.1.1.1.1.1.0;
      packet_soft = x.1.1.1.1.1.1.0;
      packet_hard = x.1.1.1.1.1.1.1;
    })
    (more num (more num (more num (more num (more (options num) (more (options num) (more (options num) (options num))))))))

template : Same template-eq.eq-value.it
template =
    told (λ t. (t.src, (t.dst, (t.spi, (t.reqid, (t.proto, (t.mode, t.level)))))))
    (λ a b h. λ i. let x = h i in record {
      src = x.0;
      dst = x.1.0;
      spi = x.1.1.0;
      reqid = x.1.1.1.0;
      proto = x.1.1.1.1.0;
      mode = x.1.1.1.1.1.0;
      level = x.1.1.1.1.1.1;
    })
    (more addr (more addr (more num (more num (more proto (more mode level))))))

templates : Same templates-eq.eq-value.it
templates = lists template

hop : Same hop-eq.eq-value.it
hop =
    told (λ h. (h.sid, (h.proto, (h.spi, h.dst))))
    (λ a b h. λ i. let x = h i in record { sid = x.0; proto = x.1.0; spi = x.1.1.0; dst = x.1.1.1 })
    (more num (more proto (more num addr)))

path : Same path-eq.eq-value.it
path = lists hop

events : Same events-eq.eq-value.it
events = lists event

policy_spec : Same policy_spec-eq.eq-value.it
policy_spec =
    told (λ p. (p.sel, (p.templates, (p.limits, (p.mark, (p.if_id, (p.priority, (p.index, (p.dir, (p.ptype, p.action))))))))))
    (λ a b h. λ i. let x = h i in record {
      sel = x.0;
      templates = x.1.0;
      limits = x.1.1.0;
      mark = x.1.1.1.0;
      if_id = x.1.1.1.1.0;
      priority = x.1.1.1.1.1.0;
      index = x.1.1.1.1.1.1.0;
      dir = x.1.1.1.1.1.1.1.0;
      ptype = x.1.1.1.1.1.1.1.1.0;
      action = x.1.1.1.1.1.1.1.1.1;
    })
    (more selector (more templates (more limits (more mark (more num (more num (more num (more dir (more ptype action)))))))))

policy : Same policy-eq.eq-value.it
policy =
    told (λ p. (p.number, (p.index, (p.added, (p.soft, p.spec)))))
    (λ a b h. λ i. let x = h i in record { number = x.0; index = x.1.0; added = x.1.1.0; soft = x.1.1.1.0; spec = x.1.1.1.1 })
    (more num (more num (more num (more flag policy_spec))))

policies : Same policies-eq.eq-value.it
policies = lists policy

-- the fields of a request for a state
abbrev Fields : Type 0
Fields =
    Addr × (Addr × (Proto × (ℕ × (Mode × (ℕ × (ℕ × (Mark × (ℕ × (Option Selector × (ℕ × (ℕ × (ℕ × (Bool × (Bool × Limits))))))))))))))

abbrev fields : SaSpec → Fields
fields s =
    (s.src, (s.dst, (s.proto, (s.spi, (s.mode, (s.reqid, (s.seq, (s.mark, (s.if_id, (s.sel, (s.window, (s.in_seq, (s.out_seq, (s.wildrecv, (s.esn, s.limits)))))))))))))))

abbrev facts_of : Fields → Type 0
facts_of x = IsSaSpec x.1.1.1.1.1.1.1.1.1.1.0 x.1.1.1.1.1.1.1.1.1.1.1.0 x.1.1.1.1.1.1.1.1.1.1.1.1.0 x.1.1.1.1.1.1.1.1.1.1.1.1.1.1.0

abbrev request : (x : Fields) → facts_of x → SaSpec
request x facts = record {
  src = x.0;
  dst = x.1.0;
  proto = x.1.1.0;
  spi = x.1.1.1.0;
  mode = x.1.1.1.1.0;
  reqid = x.1.1.1.1.1.0;
  seq = x.1.1.1.1.1.1.0;
  mark = x.1.1.1.1.1.1.1.0;
  if_id = x.1.1.1.1.1.1.1.1.0;
  sel = x.1.1.1.1.1.1.1.1.1.0;
  window = x.1.1.1.1.1.1.1.1.1.1.0;
  in_seq = x.1.1.1.1.1.1.1.1.1.1.1.0;
  out_seq = x.1.1.1.1.1.1.1.1.1.1.1.1.0;
  wildrecv = x.1.1.1.1.1.1.1.1.1.1.1.1.1.0;
  esn = x.1.1.1.1.1.1.1.1.1.1.1.1.1.1.0;
  limits = x.1.1.1.1.1.1.1.1.1.1.1.1.1.1.1;
  facts = facts;
}

sa_spec_ext : (a b : SaSpec) → fields a ≡ fields b → a ≡ b
sa_spec_ext a b h =
    let facts = is_prop→PathP (λ i. facts_of (h i)) (λ i. IsSaSpec-prop _ _ _ _) a.facts b.facts in
    λ i. request (h i) (facts i)

sa_spec : Same sa_spec-eq.eq-value.it
sa_spec =
    told fields sa_spec_ext
    (more addr (more addr (more proto (more num (more mode (more num (more num (more mark (more num (more (options selector)
    (more num (more num (more num (more flag (more flag limits)))))))))))))))

sa : Same sa-eq.eq-value.it
sa =
    told (λ s. (s.sid, (s.added, (s.larval, (s.dying, s.spec)))))
    (λ a b h. λ i. let x = h i in record { sid = x.0; added = x.1.0; larval = x.1.1.0; dying = x.1.1.1.0; spec = x.1.1.1.1 })
    (more num (more num (more flag (more flag sa_spec))))

sas : Same sas-eq.eq-value.it
sas = lists sa

-- two replies
pub Decides-reply : (a b : Reply) → Decides (reply-eq.eq-value.it a b) (a ≡ b)
Decides-reply =
    variants reply-type.enum _
    (none, (one num, (one num, (more num (one num), (one num, (one policy, (one policies, (more num (more num (one num)), (one sa, (one sas, (one num, (none, (one num, (more num (one path), (one num, (one num, (more num (one num), (one num, (more num (one flag), (none, (one num, (one num, (none, (none, (one flag, (more proto (more num (more num (one flag))), (none, (one flag, (more num (one events), (one num, (one num, (none, (none, (none, (more num (one num), (none, (none, tt)))))))))))))))))))))))))))))))))))))
