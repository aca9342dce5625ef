-- Tests that are true exactly where their facts hold.
use Rattle.std.proofs.Common.{ℕ, ◌≡◌, ◌&&◌, ◌||◌, ◌==◌, cond, Option, None, Some, IfSome, Decides, refl, ap, sym, ◌∙◌}
use Rattle.std.proofs.lemmas.Bool.Decides.{Decides-and, Decides-or, Decides-eqb, Decides-like}
use Rattle.xf_types.specs.declared.network.Addr.{Addr}
use Rattle.xf_types.specs.declared.network.Flow.{Flow}
use Rattle.xf_types.specs.declared.network.Prefix.{Prefix}
use Rattle.xf_types.specs.declared.network.Proto.{Proto}
use Rattle.xf_types.specs.declared.network.Proto.TheVariants.{Esp, Ah, Comp}
use Rattle.xf_types.specs.declared.network.Ptype.{Ptype}
use Rattle.xf_types.specs.declared.network.Selector.{Selector}
use Rattle.xf_types.specs.declared.policy.Action.{Action}
use Rattle.xf_types.specs.declared.policy.Action.TheVariants.{Allow, Block}
use Rattle.xf_types.specs.declared.policy.Mode.{Mode}
use Rattle.xf_types.specs.declared.policy.Mode.TheVariants.{Transport, Tunnel, Beet, Ro, InTrigger}
use Rattle.xf_types.specs.declared.policy.Policy.{Policy}
use Rattle.xf_types.specs.Address.{family_of, first_bits}
use Rattle.xf_types.specs.Same.{same_proto, same_mode, same_action, same_dir, same_ptype, proto_number, mode_number, action_number}
use Rattle.xf_types.specs.Selection.{IsInPrefix, in_prefix, Matches, matches, matches_port}
use Rattle.xf_types.specs.PolicyList.{applies, has_mark}
use Rattle.xf_types.proofs.Decisions.{Decides-same_dir, Decides-same_ptype}
use Rattle.xf_laws.specs.TestLaws.{Applies}

-- a test by numbers that a function reads back
by-number : {X : Type 0} (number_of : X → ℕ) (of_number : ℕ → X) → ((x : X) → of_number (number_of x) ≡ x) → (a b : X)
    → Decides (number_of a == number_of b) (a ≡ b)
by-number number_of of_number back a b =
    Decides-like (number_of a == number_of b) (λ e. sym (back a) ∙ (ap of_number e ∙ back b)) (λ e. ap number_of e)
    (Decides-eqb (number_of a) (number_of b))

-- the protocol of a number
proto_of : ℕ → Proto
proto_of n = cond (n == 50) Esp (cond (n == 51) Ah Comp)

-- is read back
proto-back : (p : Proto) → proto_of (proto_number p) ≡ p
unfolding proto_of
proto-back Esp = refl
proto-back Ah = refl
proto-back Comp = refl

-- the mode of a number
mode_of : ℕ → Mode
mode_of n = cond (n == 0) Transport (cond (n == 1) Tunnel (cond (n == 2) Beet (cond (n == 3) Ro InTrigger)))

-- is read back
mode-back : (m : Mode) → mode_of (mode_number m) ≡ m
unfolding mode_of
mode-back Transport = refl
mode-back Tunnel = refl
mode-back Beet = refl
mode-back Ro = refl
mode-back InTrigger = refl

-- the action of a number
action_of : ℕ → Action
action_of n = cond (n == 0) Allow Block

-- is read back
action-back : (a : Action) → action_of (action_number a) ≡ a
unfolding action_of
action-back Allow = refl
action-back Block = refl

-- two protocols are equal
pub Decides-same_proto : (a b : Proto) → Decides (same_proto a b) (a ≡ b)
Decides-same_proto a b = by-number proto_number proto_of proto-back a b

-- two modes are equal
pub Decides-same_mode : (a b : Mode) → Decides (same_mode a b) (a ≡ b)
Decides-same_mode a b = by-number mode_number mode_of mode-back a b

-- two actions are equal
pub Decides-same_action : (a b : Action) → Decides (same_action a b) (a ≡ b)
Decides-same_action a b = by-number action_number action_of action-back a b

-- an address is in a prefix
pub Decides-in_prefix : (addr : Addr) (prefix : Prefix) → Decides (in_prefix addr prefix) (IsInPrefix addr prefix)
Decides-in_prefix addr prefix =
    let f = family_of prefix.addr == family_of addr in
    let b = first_bits prefix.addr prefix.len == first_bits addr prefix.len in
    Decides-like (f && b) (λ h. record { family = h.0; bits = h.1 }) (λ h. (h.family, h.bits))
    (Decides-and f b (Decides-eqb (family_of prefix.addr) (family_of addr))
    (Decides-eqb (first_bits prefix.addr prefix.len) (first_bits addr prefix.len)))

-- a port that is given is equal
Decides-port : (wanted : Option ℕ) (port : ℕ) → Decides (matches_port wanted port) (IfSome wanted (λ p. p ≡ port))
Decides-port None port = (λ h. tt, λ h. refl)
Decides-port (Some wanted) port = Decides-eqb wanted port

-- a selector matches a flow
pub Decides-matches : (sel : Selector) (flow : Flow) → Decides (matches sel flow) (Matches sel flow)
Decides-matches sel flow =
    let s = in_prefix flow.src sel.src in
    let d = in_prefix flow.dst sel.dst in
    let p = (sel.proto == 0) || (sel.proto == flow.proto) in
    let x = matches_port sel.sport flow.sport in
    let y = matches_port sel.dport flow.dport in
    Decides-like ((((s && d) && p) && x) && y)
    (λ h. record { src = h.0.0.0.0; dst = h.0.0.0.1; proto = h.0.0.1; sport = h.0.1; dport = h.1 })
    (λ h. ((((h.src, h.dst), h.proto), h.sport), h.dport))
    (Decides-and (((s && d) && p) && x) y
    (Decides-and ((s && d) && p) x
    (Decides-and (s && d) p
    (Decides-and s d (Decides-in_prefix flow.src sel.src) (Decides-in_prefix flow.dst sel.dst))
    (Decides-or (sel.proto == 0) (sel.proto == flow.proto) (Decides-eqb sel.proto 0) (Decides-eqb sel.proto flow.proto)))
    (Decides-port sel.sport flow.sport))
    (Decides-port sel.dport flow.dport))

-- a policy applies to a flow
pub Decides-applies : (ptype : Ptype) (flow : Flow) (p : Policy) → Decides (applies ptype flow p) (Applies ptype flow p)
Decides-applies ptype flow p =
    let d = same_dir p.spec.dir flow.dir in
    let t = same_ptype p.spec.ptype ptype in
    let i = p.spec.if_id == flow.if_id in
    let s = matches p.spec.sel flow in
    let m = has_mark flow.mark p.spec.mark in
    Decides-like ((((d && t) && i) && s) && m)
    (λ h. record { dir = h.0.0.0.0; kind = h.0.0.0.1; if_id = h.0.0.1; sel = h.0.1; mark = h.1 })
    (λ h. ((((h.dir, h.kind), h.if_id), h.sel), h.mark))
    (Decides-and (((d && t) && i) && s) m
    (Decides-and ((d && t) && i) s
    (Decides-and (d && t) i
    (Decides-and d t (Decides-same_dir p.spec.dir flow.dir) (Decides-same_ptype p.spec.ptype ptype))
    (Decides-eqb p.spec.if_id flow.if_id))
    (Decides-matches p.spec.sel flow))
    ((λ h. h), (λ h. h)))
