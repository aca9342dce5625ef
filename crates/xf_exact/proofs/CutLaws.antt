-- An address cut to more bits than it has is the address cut to all of them.
use Rattle.std.proofs.Common.{◌≡◌, ℕ, ◌-◌, ◌*◌, ◌/◌, ◌^◌, min, ap, arith}
use Rattle.xf_types.specs.declared.network.Addr.{Addr}
use Rattle.xf_types.specs.declared.network.Addr.TheVariants.{V4, V6}
use Rattle.xf_types.specs.Address.{width_of, cut}

pub cut_whole : (addr : Addr) (len : ℕ) → cut addr (min len (width_of addr)) ≡ cut addr len
cut_whole (V4 number) len =
    let e : 32 - min len 32 ≡ 32 - len = omega arith in
    ap (λ rest. V4 (number / 2 ^ rest * 2 ^ rest)) e
cut_whole (V6 number) len =
    let e : 128 - min len 128 ≡ 128 - len = omega arith in
    ap (λ rest. V6 (number / 2 ^ rest * 2 ^ rest)) e
