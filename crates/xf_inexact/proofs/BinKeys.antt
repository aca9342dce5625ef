-- Keys of bins.
use Rattle.std.proofs.Common.{◌≡◌, ℕ, ◌+◌, ◌*◌, ◌^◌, ◌<◌, true, arith}
use Rattle.std.proofs.lemmas.Bool.Decides.{nat_tests}
use Rattle.xf_trie.specs.Keys.{agrees}
use Rattle.xf_types.specs.declared.network.Addr.{Addr}
use Rattle.xf_types.specs.declared.network.Addr.TheVariants.{V4, V6}
use Rattle.xf_types.specs.declared.network.Dir.{Dir}
use Rattle.xf_types.specs.declared.network.Dir.TheVariants.{In, Out, Fwd}
use Rattle.xf_types.specs.declared.network.Ptype.{Ptype}
use Rattle.xf_types.specs.declared.network.Ptype.TheVariants.{Main, Sub}
use Rattle.xf_types.specs.Address.{family_of}
use Rattle.xf_types.specs.Same.{dir_number, ptype_number}
use Rattle.xf_inexact.specs.Keys.{bin_key}
use Rattle.xf_inexact.specs.KeyLaws.{AreBin}

dir_small : (dir : Dir) → dir_number dir < 3
dir_small In = omega arith
dir_small Out = omega arith
dir_small Fwd = omega arith

ptype_small : (ptype : Ptype) → ptype_number ptype < 2
ptype_small Main = omega arith
ptype_small Sub = omega arith

family_small : (addr : Addr) → family_of addr < 7
family_small (V4 n) = omega arith
family_small (V6 n) = omega arith

small_number : (p f d i : ℕ) → p < 2 → f < 7 → d < 3 → i < 2 ^ 32 → i + d * 2 ^ 32 + f * 2 ^ 40 + p * 2 ^ 48 < 2 ^ 128
small_number p f d i hp hf hd hi = omega arith

pub key_small : (ptype : Ptype) (addr : Addr) (dir : Dir) (if_id : ℕ) → if_id < 2 ^ 32 → bin_key ptype (family_of addr) dir if_id < 2 ^ 128
key_small ptype addr dir if_id h =
    small_number (ptype_number ptype) (family_of addr) (dir_number dir) if_id (ptype_small ptype) (family_small addr) (dir_small dir) h

-- keys that agree in all bits are equal
pub same_keys : (a b : ℕ) → agrees a b 128 ≡ true → a ≡ b
unfolding agrees
same_keys a b e = grind (arith, nat_tests)

same_ptype : (p f d i q g c j : ℕ) → p < 2 → f < 7 → d < 3 → i < 2 ^ 32 → q < 2 → g < 7 → c < 3 → j < 2 ^ 32
    → i + d * 2 ^ 32 + f * 2 ^ 40 + p * 2 ^ 48 ≡ j + c * 2 ^ 32 + g * 2 ^ 40 + q * 2 ^ 48 → p ≡ q
same_ptype p f d i q g c j hp hf hd hi hq hg hc hj e = omega arith

same_family : (p f d i q g c j : ℕ) → p < 2 → f < 7 → d < 3 → i < 2 ^ 32 → q < 2 → g < 7 → c < 3 → j < 2 ^ 32
    → i + d * 2 ^ 32 + f * 2 ^ 40 + p * 2 ^ 48 ≡ j + c * 2 ^ 32 + g * 2 ^ 40 + q * 2 ^ 48 → f ≡ g
same_family p f d i q g c j hp hf hd hi hq hg hc hj e = omega arith

same_dir : (p f d i q g c j : ℕ) → p < 2 → f < 7 → d < 3 → i < 2 ^ 32 → q < 2 → g < 7 → c < 3 → j < 2 ^ 32
    → i + d * 2 ^ 32 + f * 2 ^ 40 + p * 2 ^ 48 ≡ j + c * 2 ^ 32 + g * 2 ^ 40 + q * 2 ^ 48 → d ≡ c
same_dir p f d i q g c j hp hf hd hi hq hg hc hj e = omega arith

same_interface : (p f d i q g c j : ℕ) → p < 2 → f < 7 → d < 3 → i < 2 ^ 32 → q < 2 → g < 7 → c < 3 → j < 2 ^ 32
    → i + d * 2 ^ 32 + f * 2 ^ 40 + p * 2 ^ 48 ≡ j + c * 2 ^ 32 + g * 2 ^ 40 + q * 2 ^ 48 → i ≡ j
same_interface p f d i q g c j hp hf hd hi hq hg hc hj e = omega arith

pub key_one : (p q : Ptype) (a b : Addr) (d c : Dir) (i j : ℕ) → i < 2 ^ 32 → j < 2 ^ 32
    → agrees (bin_key p (family_of a) d i) (bin_key q (family_of b) c j) 128 ≡ true
    → AreBin p q (family_of a) (family_of b) d c i j
key_one p q a b d c i j hi hj e =
    let same : bin_key p (family_of a) d i ≡ bin_key q (family_of b) c j = same_keys _ _ e in
    record {
      ptype = same_ptype (ptype_number p) (family_of a) (dir_number d) i (ptype_number q) (family_of b) (dir_number c) j
          (ptype_small p) (family_small a) (dir_small d) hi (ptype_small q) (family_small b) (dir_small c) hj same;
      family = same_family (ptype_number p) (family_of a) (dir_number d) i (ptype_number q) (family_of b) (dir_number c) j
          (ptype_small p) (family_small a) (dir_small d) hi (ptype_small q) (family_small b) (dir_small c) hj same;
      dir = same_dir (ptype_number p) (family_of a) (dir_number d) i (ptype_number q) (family_of b) (dir_number c) j
          (ptype_small p) (family_small a) (dir_small d) hi (ptype_small q) (family_small b) (dir_small c) hj same;
      if_id = same_interface (ptype_number p) (family_of a) (dir_number d) i (ptype_number q) (family_of b) (dir_number c) j
          (ptype_small p) (family_small a) (dir_small d) hi (ptype_small q) (family_small b) (dir_small c) hj same;
    }
