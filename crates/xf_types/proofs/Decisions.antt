-- The tests of equality are true exactly where their two values are equal.
use Rattle.std.proofs.Common.{ℕ, ◌≡◌, ◌&&◌, ◌==◌, Option, None, Some, Decides, refl, ap}
use Rattle.std.proofs.lemmas.Bool.Decides.{Decides-and, Decides-eqb, Decides-like}
use Rattle.xf_types.specs.declared.network.Addr.{Addr}
use Rattle.xf_types.specs.declared.network.Addr.TheVariants.{V4, V6}
use Rattle.xf_types.specs.declared.network.Dir.{Dir}
use Rattle.xf_types.specs.declared.network.Dir.TheVariants.{In, Out, Fwd}
use Rattle.xf_types.specs.declared.network.Mark.{Mark}
use Rattle.xf_types.specs.declared.network.Prefix.{Prefix}
use Rattle.xf_types.specs.declared.network.Ptype.{Ptype}
use Rattle.xf_types.specs.declared.network.Ptype.TheVariants.{Main, Sub}
use Rattle.xf_types.specs.declared.network.Selector.{Selector}
use Rattle.xf_types.specs.declared.policy.PolicySpec.{PolicySpec}
use Rattle.xf_types.specs.Same.{same_dir, same_ptype, same_addr, same_prefix, same_port, same_selector, same_mark}
use Rattle.xf_types.specs.PolicyList.{AreSame, is_same}
use Rattle.xf_types.proofs.SameFields.{prefix_ext, selector_ext}

-- two directions are equal
pub Decides-same_dir : (a b : Dir) → Decides (same_dir a b) (a ≡ b)
Decides-same_dir In In = (λ _. refl, λ _. refl)
Decides-same_dir In Out = (λ h. absurd cc, λ h. absurd cc)
Decides-same_dir In Fwd = (λ h. absurd cc, λ h. absurd cc)
Decides-same_dir Out In = (λ h. absurd cc, λ h. absurd cc)
Decides-same_dir Out Out = (λ _. refl, λ _. refl)
Decides-same_dir Out Fwd = (λ h. absurd cc, λ h. absurd cc)
Decides-same_dir Fwd In = (λ h. absurd cc, λ h. absurd cc)
Decides-same_dir Fwd Out = (λ h. absurd cc, λ h. absurd cc)
Decides-same_dir Fwd Fwd = (λ _. refl, λ _. refl)

-- two ptypes are equal
pub Decides-same_ptype : (a b : Ptype) → Decides (same_ptype a b) (a ≡ b)
Decides-same_ptype Main Main = (λ _. refl, λ _. refl)
Decides-same_ptype Main Sub = (λ h. absurd cc, λ h. absurd cc)
Decides-same_ptype Sub Main = (λ h. absurd cc, λ h. absurd cc)
Decides-same_ptype Sub Sub = (λ _. refl, λ _. refl)

-- two addresses are equal
pub Decides-same_addr : (a b : Addr) → Decides (same_addr a b) (a ≡ b)
Decides-same_addr (V4 a) (V4 b) = Decides-like (a == b) (λ h. ap (λ (n : ℕ). V4 n) h) (λ h. cc) (Decides-eqb a b)
Decides-same_addr (V4 a) (V6 b) = (λ h. absurd cc, λ h. absurd cc)
Decides-same_addr (V6 a) (V4 b) = (λ h. absurd cc, λ h. absurd cc)
Decides-same_addr (V6 a) (V6 b) = Decides-like (a == b) (λ h. ap (λ (n : ℕ). V6 n) h) (λ h. cc) (Decides-eqb a b)

-- two prefixes are equal
pub Decides-same_prefix : (a b : Prefix) → Decides (same_prefix a b) (a ≡ b)
Decides-same_prefix a b =
    let x = same_addr a.addr b.addr in
    let y = a.len == b.len in
    Decides-like (x && y) (λ h. prefix_ext a b h.0 h.1)
    (λ h. (ap (λ (p : Prefix). p.addr) h, ap (λ (p : Prefix). p.len) h))
    (Decides-and x y (Decides-same_addr a.addr b.addr) (Decides-eqb _ _))

-- two ports are equal, or both are left out
pub Decides-same_port : (a b : Option ℕ) → Decides (same_port a b) (a ≡ b)
Decides-same_port None None = (λ _. refl, λ _. refl)
Decides-same_port None (Some b) = (λ h. absurd cc, λ h. absurd cc)
Decides-same_port (Some a) None = (λ h. absurd cc, λ h. absurd cc)
Decides-same_port (Some a) (Some b) = Decides-like (a == b) (λ h. ap (λ (n : ℕ). Some n) h) (λ h. cc) (Decides-eqb a b)

-- two selectors are equal
pub Decides-same_selector : (a b : Selector) → Decides (same_selector a b) (a ≡ b)
Decides-same_selector a b =
    let s = same_prefix a.src b.src in
    let d = same_prefix a.dst b.dst in
    let p = a.proto == b.proto in
    let x = same_port a.sport b.sport in
    let y = same_port a.dport b.dport in
    Decides-like ((((s && d) && p) && x) && y)
    (λ h. selector_ext a b h.0.0.0.0 h.0.0.0.1 h.0.0.1 h.0.1 h.1)
    (λ h. (
      (
        ((ap (λ (q : Selector). q.src) h, ap (λ (q : Selector). q.dst) h), ap (λ (q : Selector). q.proto) h),
        ap (λ (q : Selector). q.sport) h,
      ),
      ap (λ (q : Selector). q.dport) h,
    ))
    (Decides-and (((s && d) && p) && x) y
    (Decides-and ((s && d) && p) x
    (Decides-and (s && d) p
    (Decides-and s d (Decides-same_prefix a.src b.src) (Decides-same_prefix a.dst b.dst)) (Decides-eqb _ _))
    (Decides-same_port a.sport b.sport))
    (Decides-same_port a.dport b.dport))

-- two marks are equal
pub Decides-same_mark : (a b : Mark) → Decides (same_mark a b) (a ≡ b)
Decides-same_mark a b =
    let x = a.value == b.value in
    let y = a.mask == b.mask in
    Decides-like (x && y) (λ h. λ i. record { value = h.0 i; mask = h.1 i })
    (λ h. (ap (λ (m : Mark). m.value) h, ap (λ (m : Mark). m.mask) h))
    (Decides-and x y (Decides-eqb _ _) (Decides-eqb _ _))

-- two policies are the same
pub Decides-is_same : (a b : PolicySpec) → Decides (is_same a b) (AreSame a b)
Decides-is_same a b =
    let d = same_dir a.dir b.dir in
    let t = same_ptype a.ptype b.ptype in
    let i = a.if_id == b.if_id in
    let s = same_selector a.sel b.sel in
    let m = same_mark a.mark b.mark in
    Decides-like ((((d && t) && i) && s) && m)
    (λ h. record { dir = h.0.0.0.0; ptype = h.0.0.0.1; if_id = h.0.0.1; sel = h.0.1; mark = h.1 })
    (λ h. ((((h.dir, h.ptype), h.if_id), h.sel), h.mark))
    (Decides-and (((d && t) && i) && s) m
    (Decides-and ((d && t) && i) s
    (Decides-and (d && t) i (Decides-and d t (Decides-same_dir a.dir b.dir) (Decides-same_ptype a.ptype b.ptype)) (Decides-eqb _ _))
    (Decides-same_selector a.sel b.sel))
    (Decides-same_mark a.mark b.mark))
