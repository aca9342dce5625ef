-- An address in a prefix, cut to no more bits than the prefix has, is the prefix's address cut to as many.
use Rattle.std.proofs.Common.{◌≡◌, ℕ, ◌+◌, ◌-◌, ◌*◌, ◌/◌, ◌^◌, ◌≤◌, ap, sym, ◌∙◌, arith}
use Rattle.std.proofs.Math.Nat.{div-div-eq-div-mul}
use Rattle.std.proofs.lemmas.Nat.{pow-add}
use Rattle.xf_types.specs.declared.network.Addr.{Addr}
use Rattle.xf_types.specs.declared.network.Addr.TheVariants.{V4, V6}
use Rattle.xf_types.specs.Address.{family_of, first_bits, cut}

-- dropping more bits is dropping some, and then the others
more_bits : (width len less : ℕ) → less ≤ len → 2 ^ (width - less) ≡ 2 ^ (width - len) * 2 ^ ((width - less) - (width - len))
more_bits width len less h =
    let e : width - less ≡ (width - len) + ((width - less) - (width - len)) = omega arith in
    ap (λ n. 2 ^ n) e ∙ pow-add 2 (width - len) ((width - less) - (width - len))

-- numbers that agree in their first bits agree in fewer of them
fewer_bits : (width len less a b : ℕ) → less ≤ len → a / 2 ^ (width - len) ≡ b / 2 ^ (width - len)
    → a / 2 ^ (width - less) ≡ b / 2 ^ (width - less)
fewer_bits width len less a b h e =
    let p : ℕ = 2 ^ (width - len) in
    let q : ℕ = 2 ^ ((width - less) - (width - len)) in
    let m : 2 ^ (width - less) ≡ p * q = more_bits width len less h in
    ap (λ n. a / n) m ∙ (sym (div-div-eq-div-mul a p q) ∙ (ap (λ n. n / q) e ∙ (div-div-eq-div-mul b p q ∙ ap (λ n. b / n) (sym m))))

pub cut_same : (prefix addr : Addr) (len less : ℕ) → less ≤ len → family_of prefix ≡ family_of addr
    → first_bits prefix len ≡ first_bits addr len → cut prefix less ≡ cut addr less
cut_same (V4 a) (V4 b) len less h f e = ap (λ n. V4 (n * 2 ^ (32 - less))) (fewer_bits 32 len less a b h e)
cut_same (V6 a) (V6 b) len less h f e = ap (λ n. V6 (n * 2 ^ (128 - less))) (fewer_bits 128 len less a b h e)
cut_same (V4 a) (V6 b) len less h f e = absurd (omega (arith, f))
cut_same (V6 a) (V4 b) len less h f e = absurd (omega (arith, f))
