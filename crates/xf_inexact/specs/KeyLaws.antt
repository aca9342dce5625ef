-- Which keys are equal.
use Rattle.std.specs.Prelude.{◌≡◌, ℕ, ◌^◌, ◌<◌, true}
use Rattle.xf_trie.specs.Keys.{agrees}
use Rattle.xf_types.specs.declared.network.Addr.{Addr}
use Rattle.xf_types.specs.declared.network.Dir.{Dir}
use Rattle.xf_types.specs.declared.network.Ptype.{Ptype}
use Rattle.xf_types.specs.Address.{family_of}
use Rattle.xf_types.specs.Same.{dir_number, ptype_number}
use Rattle.xf_inexact.specs.Keys.{bin_key}

-- Two bins are one.
pub record AreBin (p q : Ptype) (a b : ℕ) (d c : Dir) (i j : ℕ) : Type 0 where
  pub ptype : ptype_number p ≡ ptype_number q
  pub family : a ≡ b
  pub dir : dir_number d ≡ dir_number c
  pub if_id : i ≡ j

pub record KeyLaws : Type 0 where
  -- a key has 128 bits and no more of them
  pub small : (ptype : Ptype) (addr : Addr) (dir : Dir) (if_id : ℕ) → if_id < 2 ^ 32 → bin_key ptype (family_of addr) dir if_id < 2 ^ 128
  -- keys that agree in all their bits are of one bin
  pub one : (ptype ptype2 : Ptype) (addr addr2 : Addr) (dir dir2 : Dir) (if_id if_id2 : ℕ) → if_id < 2 ^ 32 → if_id2 < 2 ^ 32
      → agrees (bin_key ptype (family_of addr) dir if_id) (bin_key ptype2 (family_of addr2) dir2 if_id2) 128 ≡ true
      → AreBin ptype ptype2 (family_of addr) (family_of addr2) dir dir2 if_id if_id2
