-- The words of what a policy is listed under are equal exactly where these are.
use Rattle.std.proofs.Common.{◌≡◌, ℕ, ◌+◌, ◌*◌, ◌/◌, ◌%◌, ◌^◌, ◌==◌, ◌&&◌, Bool, true, false, Option, None, Some, refl, ap, sym, ◌∙◌, arith}
use Rattle.std.specs.Str.{bytes_eq}
use Rattle.std.proofs.lemmas.Nat.{div-add-mod'}
use Rattle.std.proofs.lemmas.Bool.Decides.{nat_tests, same_from_decides, Decides-eqb, Decides-like, Decides-and}
use Rattle.xf_types.specs.declared.network.Addr.{Addr}
use Rattle.xf_types.specs.declared.network.Addr.TheVariants.{V4, V6}
use Rattle.xf_types.specs.declared.network.Dir.{Dir}
use Rattle.xf_types.specs.declared.network.Mark.{Mark}
use Rattle.xf_types.specs.declared.network.Ptype.{Ptype}
use Rattle.xf_types.specs.declared.network.Selector.{Selector}
use Rattle.xf_types.specs.declared.policy.PolicySpec.{PolicySpec}
use Rattle.xf_types.specs.Address.{family_of}
use Rattle.xf_types.specs.Same.{same_dir, same_ptype, same_addr, same_port, same_selector, same_mark}
use Rattle.xf_types.specs.PolicyList.{is_under}
use Rattle.xf_records.specs.Codes.{high_word, low_word, port_word}
use Rattle.xf_asked.specs.Asked.{under_words}

-- numbers are equal where both parts are
parts_equal : (a b m : ℕ) → (a == b) ≡ ((a / m == b / m) && (a % m == b % m))
parts_equal a b m =
    let e : a / m * m + a % m ≡ a = div-add-mod' a m in
    let f : b / m * m + b % m ≡ b = div-add-mod' b m in
    same_from_decides (a == b) ((a / m == b / m) && (a % m == b % m)) (Decides-eqb a b)
    (Decides-like ((a / m == b / m) && (a % m == b % m)) (λ h. sym e ∙ ap (λ q. q * m + a % m) h.0 ∙ ap (λ r. b / m * m + r) h.1 ∙ f)
    (λ h. (ap (λ n. n / m) h, ap (λ n. n % m) h))
    (Decides-and (a / m == b / m) (a % m == b % m) (Decides-eqb (a / m) (b / m)) (Decides-eqb (a % m) (b % m))))

-- addresses are equal where their three words are
addr_equal : (a b : Addr) → same_addr a b ≡ ((family_of a == family_of b) && (high_word a == high_word b) && (low_word a == low_word b))
addr_equal (V4 a) (V4 b) = refl
addr_equal (V4 a) (V6 b) = refl
addr_equal (V6 a) (V4 b) = refl
addr_equal (V6 a) (V6 b) = parts_equal a b (2 ^ 64)

port_equal : (a b : Option ℕ) → same_port a b ≡ (port_word a == port_word b)
port_equal None None = refl
port_equal None (Some b) = grind (arith, nat_tests)
port_equal (Some a) None = grind (arith, nat_tests)
port_equal (Some a) (Some b) = grind (arith, nat_tests)

-- selectors are equal where their words are: one word has the family of both prefixes
selector_equal : (a b : Selector)
    → same_selector a b
    ≡ ((((family_of a.src.addr == family_of b.src.addr) && (high_word a.src.addr == high_word b.src.addr) && (low_word a.src.addr == low_word b.src.addr))
    && (a.src.len == b.src.len))
    && (((family_of a.src.addr == family_of b.src.addr) && (high_word a.dst.addr == high_word b.dst.addr) && (low_word a.dst.addr == low_word b.dst.addr))
    && (a.dst.len == b.dst.len))
    && (a.proto == b.proto) && (port_word a.sport == port_word b.sport) && (port_word a.dport == port_word b.dport))
selector_equal a b =
    rw (
      addr_equal a.src.addr b.src.addr,
      addr_equal a.dst.addr b.dst.addr,
      a.facts.one_family,
      b.facts.one_family,
      port_equal a.sport b.sport,
      port_equal a.dport b.dport,
    ) refl

-- the fifteen tests in a row are those of the fields in groups
in_groups : (d t i f h l n g k m p s q v w : Bool)
    → (d && (t && (i && (f && (h && (l && (n && (g && (k && (m && (p && (s && (q && (v && (w && true)))))))))))))))
    ≡ (d && t && i && (((f && h && l) && n) && ((f && g && k) && m) && p && s && q) && (v && w))
in_groups false t i f h l n g k m p s q v w = refl
in_groups true false i f h l n g k m p s q v w = refl
in_groups true true false f h l n g k m p s q v w = refl
in_groups true true true false h l n g k m p s q v w = refl
in_groups true true true true false l n g k m p s q v w = refl
in_groups true true true true true false n g k m p s q v w = refl
in_groups true true true true true true false g k m p s q v w = refl
in_groups true true true true true true true false k m p s q v w = refl
in_groups true true true true true true true true false m p s q v w = refl
in_groups true true true true true true true true true false p s q v w = refl
in_groups true true true true true true true true true true false s q v w = refl
in_groups true true true true true true true true true true true false q v w = refl
in_groups true true true true true true true true true true true true false v w = refl
in_groups true true true true true true true true true true true true true false w = refl
in_groups true true true true true true true true true true true true true true false = refl
in_groups true true true true true true true true true true true true true true true = refl

-- what a policy is listed under is equal where its words are
pub under_equal : (dir : Dir) (ptype : Ptype) (sel : Selector) (mark : Mark) (if_id : ℕ) (spec : PolicySpec)
    → bytes_eq (under_words dir ptype sel mark if_id) (under_words spec.dir spec.ptype spec.sel spec.mark spec.if_id)
    ≡ is_under dir ptype sel mark if_id spec
unfolding under_words
under_equal dir ptype sel mark if_id spec =
    in_groups (same_dir dir spec.dir) (same_ptype ptype spec.ptype) (if_id == spec.if_id)
    (family_of sel.src.addr == family_of spec.sel.src.addr) (high_word sel.src.addr == high_word spec.sel.src.addr)
    (low_word sel.src.addr == low_word spec.sel.src.addr) (sel.src.len == spec.sel.src.len)
    (high_word sel.dst.addr == high_word spec.sel.dst.addr) (low_word sel.dst.addr == low_word spec.sel.dst.addr)
    (sel.dst.len == spec.sel.dst.len) (sel.proto == spec.sel.proto) (port_word sel.sport == port_word spec.sel.sport)
    (port_word sel.dport == port_word spec.sel.dport) (mark.value == spec.mark.value) (mark.mask == spec.mark.mask)
    ∙ ap (λ x. same_dir dir spec.dir && same_ptype ptype spec.ptype && (if_id == spec.if_id) && x && same_mark mark spec.mark)
    (sym (selector_equal sel spec.sel))
