-- An address whose bits past a length are 0 is cut to itself.
use Rattle.std.proofs.Common.{◌≡◌, ℕ, ◌-◌, ◌*◌, ◌/◌, ◌%◌, ◌^◌, ap, arith}
use Rattle.std.proofs.Math.Nat.{div-add-mod}
use Rattle.xf_types.specs.declared.network.Addr.{Addr}
use Rattle.xf_types.specs.declared.network.Addr.TheVariants.{V4, V6}
use Rattle.xf_types.specs.Address.{width_of, number_of, cut}

-- what leaves no rest is divided and multiplied back
multiple_back : (n d : ℕ) → n % d ≡ 0 → n / d * d ≡ n
multiple_back n d h = grind (arith, div-add-mod n d)

-- an address that is clear past the length is cut to itself
pub cut_clean : (addr : Addr) (len : ℕ) → number_of addr % 2 ^ (width_of addr - len) ≡ 0 → cut addr len ≡ addr
cut_clean (V4 number) len h = ap V4 (multiple_back number _ h)
cut_clean (V6 number) len h = ap V6 (multiple_back number _ h)
