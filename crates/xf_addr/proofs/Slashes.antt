-- No slash stands in an address.
use Rattle.std.proofs.Common.{ℕ, ◌≢◌, ◌^◌, ◌<◌, ◌≤◌, Bool, true, false, List, [], ◌∷◌, decimal, sym, subst, inl, inr, arith}
use Rattle.std.proofs.lemmas.Fmt.{decimal_is_IsNumeral}
use Rattle.std.proofs.lemmas.List.Elements.{All-nil}
use Rattle.std.specs.Char.{digit_value}
use Rattle.std.specs.Str.Parse.{AllDigits}
use Rattle.std.specs.Net.Grammar.{IsDotted, IsGroupsAfter, IsColonHex}
use Rattle.xf_types.specs.declared.network.Addr.{Addr}
use Rattle.xf_addr.specs.Spelling.{Spells}
use Rattle.xf_addr.proofs.Cuts.{Lacks, Lacks-cons, Lacks-append}

lacks_none : Lacks 47 []
lacks_none = All-nil (λ c. c ≢ 47)

point_lacks : Lacks 47 (46 ∷ [])
point_lacks = Lacks-cons 47 46 [] (λ e. omega (arith, e)) lacks_none

colon_lacks : Lacks 47 (58 ∷ [])
colon_lacks = Lacks-cons 47 58 [] (λ e. omega (arith, e)) lacks_none

digits_lack : (radix : ℕ) (ds : List ℕ) → radix ≤ 16 → AllDigits radix ds → Lacks 47 ds
digits_lack radix [] h digits = lacks_none
digits_lack radix (d ∷ ds) h digits =
    Lacks-cons 47 d ds
    (λ slash.
    let big : digit_value 47 < radix = rw slash at digits.0 in
    omega arith)
    (digits_lack radix ds h digits.1)

decimal_lacks : (n : ℕ) → n < 2 ^ 64 → Lacks 47 (decimal n)
decimal_lacks n small = digits_lack 10 (decimal n) (omega arith) (decimal_is_IsNumeral n small).0.1

dotted_lacks : (text octets : List ℕ) → IsDotted text octets → Lacks 47 text
dotted_lacks text octets h =
    let a = decimal_lacks h.a (omega (arith, h.fit.0)) in
    let b = decimal_lacks h.b (omega (arith, h.fit.1)) in
    let c = decimal_lacks h.c (omega (arith, h.fit.2)) in
    let d = decimal_lacks h.d (omega (arith, h.fit.3)) in
    let first = Lacks-append 47 _ _ (Lacks-append 47 _ _ a point_lacks) b in
    let second = Lacks-append 47 _ _ (Lacks-append 47 _ _ first point_lacks) c in
    subst (Lacks 47) (sym h.spelled) (Lacks-append 47 _ _ (Lacks-append 47 _ _ second point_lacks) d)

groups_lack : (ipv4 : Bool) (lead text groups : List ℕ) → Lacks 47 lead → IsGroupsAfter ipv4 lead text groups → Lacks 47 text
groups_lack ipv4 lead text [] led h = subst (Lacks 47) (sym h) lacks_none
groups_lack ipv4 lead text (g ∷ groups) led (inl (group, rest, split, is_group, more)) =
    let own = digits_lack 16 group (omega arith) is_group.0.0.1 in
    let after = groups_lack ipv4 (58 ∷ []) rest groups colon_lacks more in
    subst (Lacks 47) (sym split) (Lacks-append 47 _ _ (Lacks-append 47 _ _ led own) after)
groups_lack ipv4 lead text (g ∷ groups) led (inr (last, octets, allowed, split, dotted, same)) =
    subst (Lacks 47) (sym split) (Lacks-append 47 _ _ led (dotted_lacks last octets dotted))

colon_hex_lacks : (text groups : List ℕ) → IsColonHex text groups → Lacks 47 text
colon_hex_lacks text groups (inl h) = groups_lack true [] text groups lacks_none h.0
colon_hex_lacks text groups (inr h) =
    let head = groups_lack false [] h.head_text h.head lacks_none h.head_groups in
    let tail = groups_lack true [] h.tail_text h.tail lacks_none h.tail_groups in
    let colons = Lacks-append 47 (58 ∷ []) (58 ∷ []) colon_lacks colon_lacks in
    subst (Lacks 47) (sym h.spelled) (Lacks-append 47 _ _ (Lacks-append 47 _ _ head colons) tail)

-- a spelled address lacks the slash
pub spelled_lacks : (text : List ℕ) (a : Addr) → Spells text a → Lacks 47 text
spelled_lacks text a (inl h) = dotted_lacks text h.0 h.1
spelled_lacks text a (inr h) = colon_hex_lacks text h.0 h.1
