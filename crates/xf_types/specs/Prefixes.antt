-- The prefix of an address and a length (RFC 4291, 2.3).
use Rattle.std.specs.Prelude.{◌≡◌, ℕ, ◌-◌, ◌%◌, ◌^◌, ◌≤◌, min}
use Rattle.std.proofs.Math.Nat.{mul-mod_left, min-le_right}
use Rattle.xf_types.specs.declared.network.Addr.{Addr}
use Rattle.xf_types.specs.declared.network.Addr.TheVariants.{V4, V6}
use Rattle.xf_types.specs.declared.network.Prefix.{Prefix}
use Rattle.xf_types.specs.Address.{width_of, number_of, cut}

-- the bits past the length are cleared
pub number_of-cut : (addr : Addr) (len : ℕ) → number_of (cut addr len) % 2 ^ (width_of (cut addr len) - len) ≡ 0
number_of-cut (V4 number) len = mul-mod_left _ _
number_of-cut (V6 number) len = mul-mod_left _ _

-- no length passes the address's end
pub min_fits : (addr : Addr) (len : ℕ) → min len (width_of addr) ≤ width_of (cut addr (min len (width_of addr)))
min_fits (V4 number) len = min-le_right len 32
min_fits (V6 number) len = min-le_right len 128

-- the first bits of the address, len of them, and at most all
abbrev pub prefix_at : Addr → ℕ → Prefix
prefix_at addr len = record {
  addr = cut addr (min len (width_of addr));
  len = min len (width_of addr);
  facts = record { fits = min_fits addr len; clean = number_of-cut addr (min len (width_of addr)) };
}
