-- Keys agree as addresses do.
use Rattle.std.proofs.Common.{◌≡◌, ℕ, ◌+◌, ◌-◌, ◌*◌, ◌/◌, ◌%◌, ◌^◌, ◌≤◌, Bool, ap, arith, eq-eqb, lit<, refl, sym, true, ◌&&◌, ◌==◌, ◌∙◌}
use Rattle.std.proofs.Math.Nat.{div-add-mod, div-div-eq-div-mul, mul-div_cancel}
use Rattle.std.proofs.lemmas.Bool.{and_parts, eqb-true}
use Rattle.std.proofs.lemmas.Nat.{pow-add}
use Rattle.xf_types.specs.declared.network.Addr.{Addr}
use Rattle.xf_types.specs.declared.network.Addr.TheVariants.{V4, V6}
use Rattle.xf_types.specs.Address.{family_of, first_bits, width_of}
use Rattle.xf_types.specs.Facts.{IsPrefix}
use Rattle.xf_trie.specs.declared.trie.Node.{Node}
use Rattle.xf_trie.specs.Keys.{agrees, first_of, key_of}
use Rattle.xf_trie.specs.Trees.{holds, is_prefix}

pub key_bits : (a : Addr) (len : ℕ) → len ≤ width_of a → first_of (key_of a) len ≡ first_bits a len
key_bits (V4 n) len h =
    let e : 128 - len ≡ 96 + (32 - len) = omega arith in
    ap (λ k. n * 2 ^ 96 / 2 ^ k) e ∙ ap (λ d. n * 2 ^ 96 / d) (pow-add 2 96 (32 - len))
    ∙ sym (div-div-eq-div-mul (n * 2 ^ 96) (2 ^ 96) (2 ^ (32 - len)))
    ∙ ap (λ x. x / 2 ^ (32 - len)) (mul-div_cancel n {n = 2 ^ 96} (lit< tt))
key_bits (V6 n) len h = refl

same_width : (a b : Addr) → family_of a ≡ family_of b → width_of a ≡ width_of b
same_width (V4 m) (V4 n) e = refl
same_width (V4 m) (V6 n) e = absurd (omega arith)
same_width (V6 m) (V4 n) e = absurd (omega arith)
same_width (V6 m) (V6 n) e = refl

pub key_holds : (a b : Addr) (len : ℕ) → family_of b ≡ family_of a → len ≤ width_of b
    → agrees (key_of b) (key_of a) len ≡ ((family_of b == family_of a) && (first_bits b len == first_bits a len))
unfolding agrees
key_holds a b len e h =
    let w : width_of b ≡ width_of a = same_width b a e in
    let ha : len ≤ width_of a = omega arith in
    ap (λ x. x == first_of (key_of a) len) (key_bits b len h) ∙ ap (λ y. first_bits b len == y) (key_bits a len ha)
    ∙ sym (ap (λ (v : Bool). v && (first_bits b len == first_bits a len)) (eq-eqb (family_of b) (family_of a) e))

-- a node that has a prefix holds what the prefix does

agrees_swap : (a b c n : ℕ) → agrees a b n ≡ true → agrees a c n ≡ agrees b c n
unfolding agrees
agrees_swap a b c n h = ap (λ x. x == first_of c n) (eqb-true (first_of a n) (first_of b n) h)

pub node_holds : (a b : Addr) (len : ℕ) (node : Node) → family_of b ≡ family_of a → len ≤ width_of b → is_prefix (key_of b) len node ≡ true
    → holds (key_of a) node ≡ ((family_of b == family_of a) && (first_bits b len == first_bits a len))
node_holds a b len node e h p =
    let (same, agree) = and_parts (node.len == len) (agrees node.key (key_of b) len) p in
    ap (λ n. agrees node.key (key_of a) n) (eqb-true node.len len same) ∙ agrees_swap node.key (key_of b) (key_of a) len agree ∙ key_holds a b len e h

-- two numbers whose bits past a length are 0 are equal where those before it are
clean_same : (m n d : ℕ) → m % d ≡ 0 → n % d ≡ 0 → m / d ≡ n / d → m ≡ n
clean_same m n d e f g = sym (div-add-mod m d) ∙ ap (λ x. d * x + m % d) g ∙ ap (λ x. d * (n / d) + x) (e ∙ sym f) ∙ div-add-mod n d

first_same : (a b : Addr) (len : ℕ) → len ≤ width_of a → len ≤ width_of b → agrees (key_of a) (key_of b) len ≡ true → first_bits a len ≡ first_bits b len
unfolding agrees
first_same a b len h k e = sym (key_bits a len h) ∙ eqb-true (first_of (key_of a) len) (first_of (key_of b) len) e ∙ key_bits b len k

pub key_same : (a b : Addr) (len : ℕ) → family_of a ≡ family_of b → IsPrefix a len → IsPrefix b len → agrees (key_of a) (key_of b) len ≡ true → a ≡ b
key_same (V4 m) (V4 n) len e p q g = ap (λ x. V4 x) (clean_same m n (2 ^ (32 - len)) p.clean q.clean (first_same (V4 m) (V4 n) len p.fits q.fits g))
key_same (V4 m) (V6 n) len e p q g = absurd (omega arith)
key_same (V6 m) (V4 n) len e p q g = absurd (omega arith)
key_same (V6 m) (V6 n) len e p q g = ap (λ x. V6 x) (clean_same m n (2 ^ (128 - len)) p.clean q.clean (first_same (V6 m) (V6 n) len p.fits q.fits g))
